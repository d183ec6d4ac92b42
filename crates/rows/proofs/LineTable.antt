-- The loop that reads the lines of an accepted sheet into the table of the lines.
use mathlib.Core.Bool.{Bool, true}
use mathlib.Core.List.{List}
use mathlib.Core.Logic.{◌↔◌}
use mathlib.Core.Path.{◌≡◌, refl, sym, ◌∙◌}
use Prim.Native.Nat.{ℕ, ◌+◌, ◌*◌, ◌≤◌, ◌<◌}
use native.Mathlib.Decide.{ℕ_discrete}
use native.Mathlib.Omega.{arith}
use borrow.Author.Tests.{ltb-true, lt-ltb}
use lib.ListN.{length, set, take, replicate, length-set}
use lib.Seq.{get_or-set_same, get_or-set_other, get_or-take, length-take-le}
use Rattle.model.specs.Field.{at}
use Rattle.model.specs.Norm.{kind_norm, norm}
use Rattle.model.specs.Sheet.{line_count, line_of, card_of}
use Rattle.norms.specs.Norms.{lowers_norm}
use Rattle.tables.specs.Lines.{lines_in, kind_in, code_in, LowersIn}
use Rattle.tables.proofs.Tables.{zero_counts}
use Rattle.rows.specs.Stage.{LowersAt, LinesAre}

-- The lines below j of n are in the table, and the marks of the others are 0.
pub record Filled (s : List ℕ) (n j : ℕ) (table : List ℕ) : Type 0 where
  pub within : j ≤ n
  pub few : n ≤ 256
  pub long : length table ≡ 768
  pub kinds : (i : ℕ) → i < j → at table i ≡ (line_of s i).kind
  pub codes : (i : ℕ) → i < j → at table (n + i) ≡ (line_of s i).code
  pub marks : (i : ℕ) → i < j → (at table (2 * n + i) ≡ 1) ↔ LowersAt s i
  pub rest : (i : ℕ) → j ≤ i → at table (2 * n + i) ≡ 0

pub filled_none : {s : List ℕ} {n : ℕ} → n ≤ 256 → Filled s n 0 (replicate 768 0)
filled_none {s} {n} f =
    record {
      within = omega arith;
      few = f;
      long = refl;
      kinds = λ i h. absurd (omega arith);
      codes = λ i h. absurd (omega arith);
      marks = λ i h. absurd (omega arith);
      rest = λ i _. zero_counts 768 (2 * n + i);
    }

-- A line more, of which the table has three bytes.
module _ {s : List ℕ} {n j : ℕ} {table : List ℕ} (h : Filled s n j table) (l : j < n) {new : List ℕ} (long : length new ≡ 768)
    (same : (x : ℕ) → ¬ (x ≡ j) → ¬ (x ≡ n + j) → ¬ (x ≡ 2 * n + j) → at new x ≡ at table x)
    (kind : at new j ≡ (line_of s j).kind) (code : at new (n + j) ≡ (line_of s j).code) (mark : (at new (2 * n + j) ≡ 1) ↔ LowersAt s j) where
  pub filled_more : Filled s n (j + 1) new
  filled_more =
      record {
        within = omega arith;
        few = h.few;
        long = long;
        kinds = λ i p. kinds i p (ℕ_discrete i j);
        codes = λ i p. codes i p (ℕ_discrete i j);
        marks = λ i p. marks i p (ℕ_discrete i j);
        rest = λ i p. same (2 * n + i) (λ e. omega arith) (λ e. omega arith) (λ e. omega arith) ∙ h.rest i (omega arith);
      }
    where
      kinds : (i : ℕ) → i < j + 1 → Dec (i ≡ j) → at new i ≡ (line_of s i).kind
      kinds i p (yes e) = rw e kind
      kinds i p (no d) = same i d (λ e. omega arith) (λ e. omega arith) ∙ h.kinds i (omega arith)

      codes : (i : ℕ) → i < j + 1 → Dec (i ≡ j) → at new (n + i) ≡ (line_of s i).code
      codes i p (yes e) = rw e code
      codes i p (no d) = same (n + i) (λ e. omega arith) (λ e. d (omega arith)) (λ e. omega arith) ∙ h.codes i (omega arith)

      marks : (i : ℕ) → i < j + 1 → Dec (i ≡ j) → (at new (2 * n + i) ≡ 1) ↔ LowersAt s i
      marks i p (yes e) = rw e mark
      marks i p (no d) = rw (same (2 * n + i) (λ e. omega arith) (λ e. omega arith) (λ e. d (omega arith))) (h.marks i (omega arith))

-- The bytes of a line that does not lower the norm, and of one that does.
module _ {s : List ℕ} {n j : ℕ} {table : List ℕ} (h : Filled s n j table) (l : j < n) (k c : ℕ) (kind : k ≡ (line_of s j).kind) (code : c ≡ (line_of s j).code) where
  abbrev two : List ℕ
  two = set (set table j k) (n + j) c

  two_long : length (set (set table j k) (n + j) c) ≡ 768
  two_long = length-set (set table j k) (n + j) c ∙ length-set table j k ∙ h.long

  two_other : (x : ℕ) → ¬ (x ≡ j) → ¬ (x ≡ n + j) → at (set (set table j k) (n + j) c) x ≡ at table x
  two_other x a b = get_or-set_other (set table j k) (n + j) x c 0 b ∙ get_or-set_other table j x k 0 a

  two_kind : at (set (set table j k) (n + j) c) j ≡ (line_of s j).kind
  two_kind = get_or-set_other (set table j k) (n + j) j c 0 (λ e. omega arith) ∙ get_or-set_same table j k 0 (omega (arith, h.long, h.few)) ∙ kind

  two_code : at (set (set table j k) (n + j) c) (n + j) ≡ (line_of s j).code
  two_code = get_or-set_same (set table j k) (n + j) c 0 (omega (arith, h.long, h.few, length-set table j k)) ∙ code

  pub filled_two : (LowersAt s j → ⊥) → Filled s n (j + 1) (set (set table j k) (n + j) c)
  filled_two not =
      filled_more h l two_long (λ x a b _. two_other x a b) two_kind two_code
      ((λ e. absurd (omega (arith, e, two_other (2 * n + j) (λ e. omega arith) (λ e. omega arith), h.rest j (omega arith)))), (λ w. absurd (not w)))

  pub filled_three : LowersAt s j → Filled s n (j + 1) (set (set (set table j k) (n + j) c) (2 * n + j) 1)
  filled_three w =
      filled_more h l (length-set two (2 * n + j) 1 ∙ two_long) (λ x a b d. other x d ∙ two_other x a b)
      (other j (λ e. omega arith) ∙ two_kind) (other (n + j) (λ e. omega arith) ∙ two_code)
      ((λ _. w), (λ _. get_or-set_same two (2 * n + j) 1 0 (omega (arith, two_long, h.few))))
    where
      other : (x : ℕ) → ¬ (x ≡ 2 * n + j) → at (set (set (set table j k) (n + j) c) (2 * n + j) 1) x ≡ at (set (set table j k) (n + j) c) x
      other x d = get_or-set_other (set (set table j k) (n + j) c) (2 * n + j) x 1 0 d

-- Whether a line lowers the norm, as the test says it.
pub lowers_tells : {r : Bool} (s : List ℕ) (j : ℕ) → j < line_count s → r ≡ lowers_norm s j → (r ≡ true) ↔ LowersAt s j
unfolding lowers_norm
lowers_tells s j h e = (
  (λ t. (h, ltb-true _ _ (sym e ∙ t))),
  (λ w. e ∙ lt-ltb (norm (card_of s) (line_of s j).left) (kind_norm (card_of s) (line_of s j).kind) w.1),
)

-- All lines are read.
pub filled_all : {s : List ℕ} {n j : ℕ} {table : List ℕ} → n ≡ line_count s → Filled s n j table → n ≤ j → LinesAre s (take (3 * n) table)
unfolding kind_in code_in LowersIn
filled_all {s} {n} {j} {table} e h l =
    record {
      long = count;
      kind_is = λ i p. get_or-take (3 * n) table i 0 (omega arith) ∙ h.kinds i (omega arith);
      code_is = λ i p. rw count_is (get_or-take (3 * n) table (n + i) 0 (omega arith) ∙ h.codes i (omega arith));
      lowers_is = λ i p. rw (count_is, get_or-take (3 * n) table (2 * n + i) 0 (omega arith)) (h.marks i (omega arith));
    }
  where
    whole : length (take (3 * n) table) ≡ 3 * n
    whole = length-take-le (3 * n) table (omega (arith, h.long, h.few))

    count_is : lines_in (take (3 * n) table) ≡ n
    count_is = omega (arith, whole)

    count : lines_in (take (3 * n) table) ≡ line_count s
    count = count_is ∙ e
