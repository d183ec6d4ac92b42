-- The loop that finds a candidate for a row: what one line leaves, with a token of another's kind, less what that other leaves.
-- Assumes nothing.
use mathlib.Core.Bool.{true, false}
use mathlib.Core.List.{List}
use mathlib.Core.Path.{◌≡◌, refl, fun_ext}
use Prim.Native.Nat.{ℕ, ◌+◌, ◌^◌, ◌≤◌, ◌<◌}
use native.Mathlib.Omega.{arith}
use lib.ListN.{length, replicate}
use Rattle.std.specs.Prelude.{Option}
use Rattle.model.specs.Field.{Field, ◌⊕◌, unit, at}
use Rattle.model.specs.Limits.{most_kinds}
use Rattle.theory.proofs.Field.{unit_other}
use Rattle.tables.specs.Table.{row_part, row_in, IsCandidate, CandidateIs}
use Rattle.tables.proofs.Tables.{at_kind, Agree, agree_none, agree_all, past, zero_counts, lent_row}

-- The counts below i are those of the second side less m's, and no others are set.
pub record Subtracted (l m : List ℕ) (kind : ℕ) (counts : List ℕ) (i : ℕ) : Type 0 where
  pub within : i ≤ length l
  pub wide : length l ≤ length counts
  pub agree : Agree (at counts ⊕ at m) (unit kind ⊕ at l) i
  pub rest : (j : ℕ) → i ≤ j → at counts j ≡ 0

pub subtracted_none : {l m : List ℕ} {kind : ℕ} → length l ≤ most_kinds → Subtracted l m kind (replicate most_kinds 0) 0
subtracted_none {l} {m} {kind} h =
    record { within = omega arith; wide = h; agree = agree_none; rest = λ j _. zero_counts most_kinds j }

module _ {l m : List ℕ} {kind : ℕ} {counts : List ℕ} {i : ℕ} (h : Subtracted l m kind counts i) where
  pub subtracted_all : length l ≤ i → length m ≤ i → kind < i → IsCandidate (at l) (at m) kind true counts
  subtracted_all p q r =
      record {
        gives = λ _. total;
        only = λ b _ e. (refl, fun_ext (λ j. omega (arith, at_kind e j, at_kind total j)));
        empty = λ e. let z : ◌≡◌ {A = ℕ} 0 1 = cc in absurd (omega arith);
      }
    where
      total : at counts ⊕ at m ≡ unit kind ⊕ at l
      total = agree_all h.agree (λ j b. omega (arith, h.rest j b, past m j (omega arith), past l j (omega arith), unit_other kind j (λ e. omega arith)))

-- A kind at which no count will do.
pub subtracted_not : {l m : Field} {kind : ℕ} (i : ℕ) → ((v : ℕ) → v < 2 ^ 32 → v + m i ≡ unit kind i + l i → ⊥) → IsCandidate l m kind false (replicate most_kinds 0)
subtracted_not i h =
    record {
      gives = λ e. let z : ◌≡◌ {A = ℕ} 0 1 = cc in absurd (omega arith);
      only = λ b f e. absurd (h (b i) (f i) (at_kind e i));
      empty = λ _. refl;
    }

-- The candidate of the rows that hold two lines' forms.
pub told_candidate : {own other : List ℕ} (forms : List ℕ) (l m kind : ℕ) (told : Option (List ℕ)) → own ≡ row_part forms l → other ≡ row_part forms m
    → CandidateIs (at own) (at other) kind told → CandidateIs (row_in forms l) (row_in forms m) kind told
told_candidate forms l m kind told p q C = rw (lent_row forms l p, lent_row forms m q) at C
