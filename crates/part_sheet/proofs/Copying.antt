-- Bytes that are copied one by one.
use mathlib.Core.List.{List}
use mathlib.Core.Path.{◌≡◌, refl, ◌∙◌}
use Prim.Native.Nat.{ℕ, ◌+◌, ◌<◌}
use native.Mathlib.Decide.{ℕ_discrete}
use native.Mathlib.Omega.{arith}
use lib.ListN.{length, set, length-set}
use lib.Seq.{get_or-set_same, get_or-set_other}
use Rattle.model.specs.Sheet.{byte}
use Rattle.part_sheet.specs.Bytes.{Copied}

-- Nothing is copied at first, and one byte more with each turn.
pub copied_none : (s : List ℕ) (from : ℕ) (p : List ℕ) (to : ℕ) → Copied s from p to 0 p
copied_none s from p to = record { long = refl; here = λ i h. absurd (omega arith); before = λ i h. refl; past = λ i h. refl }

pub copied_more : {s : List ℕ} {from : ℕ} {p : List ℕ} {to n : ℕ} {q : List ℕ} → Copied s from p to n q → to + n < length p
    → Copied s from p to (n + 1) (set q (to + n) (byte s (from + n)))
copied_more {s} {from} {p} {to} {n} {q} C h = record {
  long = length-set q (to + n) (byte s (from + n)) ∙ C.long;
  here = λ i l. here i l (ℕ_discrete i n);
  before = λ i l. other i (λ e. omega arith) ∙ C.before i l;
  past = λ i l. other i (λ e. omega arith) ∙ C.past i (omega arith);
}
  where
    other : (i : ℕ) → ¬ (i ≡ to + n) → byte (set q (to + n) (byte s (from + n))) i ≡ byte q i
    other i d = get_or-set_other q (to + n) i (byte s (from + n)) 0 d

    here : (i : ℕ) → i < n + 1 → Dec (i ≡ n) → byte (set q (to + n) (byte s (from + n))) (to + i) ≡ byte s (from + i)
    here i l (yes e) = rw e (get_or-set_same q (to + n) (byte s (from + n)) 0 (omega (arith, C.long)))
    here i l (no d) = other (to + i) (λ e. d (omega arith)) ∙ C.here i (omega arith)
