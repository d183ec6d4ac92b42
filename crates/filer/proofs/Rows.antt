-- The checks of Row, and the part that it hands out.
use mathlib.Core.Bool.{true, false}
use mathlib.Core.List.{List, []}
use mathlib.Core.Path.{◌≡◌, sym, ◌∙◌, ap}
use Prim.Native.Nat.{ℕ, ◌+◌, ◌*◌, ◌-◌, ◌≤◌, ◌<◌}
use native.Mathlib.Nat.{mul-le-mul, mul-le-mul_right, suc-mul, add-sub_cancel_left}
use native.Mathlib.Omega.{arith}
use lib.ListN.{length, take, drop, get_or, length-take, get_or-eq_default}
use lib.Seq.{get_or-take, get_or-drop}
use Rattle.model.specs.Field.{at}
use Rattle.model.specs.Limits.{most_kinds}
use Rattle.model.specs.Refusal.{clear, refusal, outside, row_checks}
use Rattle.model.specs.Answer.{row_of, row_check_of}
use Rattle.theory.proofs.Checks.{from_outside}
use Rattle.theory.proofs.Answers.{demand1}
use Rattle.validation.proofs.Checking.{test_stops, test_passes, past_stops, past_passes, less_stops}

-- Kinds in range.
pub in_range : (n : ℕ) → outside 1 most_kinds n ≡ false → (1 ≤ n) × (n ≤ most_kinds)
in_range n e = from_outside 1 most_kinds n (rw e (λ t. t))

pub square_most : (n : ℕ) → n ≤ most_kinds → n * n ≤ 1024
square_most n h = omega (arith, mul-le-mul h h)

-- What a check that is clear tells.
pub record Whole (n k size : ℕ) : Type 0 where
  pub some : 1 ≤ n
  pub few : n ≤ most_kinds
  pub kind : k < n
  pub room : n * n ≤ size

module _ (n k : ℕ) (table : List ℕ) where
  pub kinds_stop : outside 1 most_kinds n ≡ true → row_check_of n k table ≡ refusal 2 0
  unfolding row_check_of row_checks
  kinds_stop e = test_stops 2 0 _ _ e

  pub kind_stops : outside 1 most_kinds n ≡ false → n ≤ k → row_check_of n k table ≡ refusal 11 0
  unfolding row_check_of row_checks
  kind_stops e h = test_passes 2 0 _ _ e ∙ past_stops 11 0 _ k n h

  pub size_stops : outside 1 most_kinds n ≡ false → k < n → length table < n * n → row_check_of n k table ≡ refusal 12 0
  unfolding row_check_of row_checks
  size_stops e h l = test_passes 2 0 _ _ e ∙ past_passes 11 0 _ k n h ∙ less_stops 12 0 [] (length table) (n * n) l

  pub row_clear : Whole n k (length table) → row_check_of n k table ≡ clear
  row_clear w = ((demand1 []).row_taken n k table).1 (w.some, w.few, w.kind, w.room)

  -- A row of a table that is large enough lies in it.
  pub row_inside : Whole n k (length table) → k * n + n ≤ length table
  row_inside w = omega (arith, mul-le-mul_right n w.kind, suc-mul k n, w.room)

  module _ (e : row_check_of n k table ≡ clear) where
    pub whole : Whole n k (length table)
    whole = let w = ((demand1 []).row_taken n k table).0 e in record { some = w.0; few = w.1; kind = w.2; room = w.3 }

    -- The part from row k to the next is the row.
    pub part_is : take (k * n + n - k * n) (drop (k * n) table) ≡ row_of n k table
    part_is = rw add-sub_cancel_left (sym ((demand1 []).row_part_is n k table e))

    -- What stands in it.
    pub row_at : (j : ℕ) → j < n → at (row_of n k table) j ≡ at table (k * n + j)
    row_at j h = ap (λ (xs : List ℕ). get_or xs j 0) ((demand1 []).row_part_is n k table e) ∙ get_or-take n (drop (k * n) table) j 0 h ∙ get_or-drop (k * n) table j 0

    pub row_past : (j : ℕ) → n ≤ j → at (row_of n k table) j ≡ 0
    row_past j h =
        ap (λ (xs : List ℕ). get_or xs j 0) ((demand1 []).row_part_is n k table e)
        ∙ get_or-eq_default (take n (drop (k * n) table)) 0 (omega (arith, length-take n (drop (k * n) table)))

  -- A refusal hands out nothing.
  pub row_none : (q p : ℕ) → row_check_of n k table ≡ refusal q p → [] ≡ row_of n k table
  row_none q p e = sym (((demand1 []).row_refused n k table).1 (q, p, e))
