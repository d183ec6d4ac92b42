-- The tests of a kind's row, over plain lists.
-- Assumes nothing.
use mathlib.Core.Bool.{Bool, true}
use mathlib.Core.List.{List}
use mathlib.Core.Logic.{◌↔◌}
use mathlib.Core.Path.{◌≡◌, sym, subst, ◌∙◌, fun_ext}
use Prim.Native.Nat.{ℕ, ◌+◌, ◌*◌, ◌<◌}
use native.Mathlib.Decide.{ℕ_discrete}
use native.Mathlib.Omega.{arith}
use borrow.Author.Tests.{eqb-true, eq-eqb}
use lib.Dec.{eqb}
use lib.ListN.{set, replicate, length-replicate}
use lib.Seq.{get_or-set_same, get_or-set_other}
use Rattle.model.specs.Field.{Field, unit, at}
use Rattle.model.specs.Limits.{most_kinds}
use Rattle.model.specs.Sense.{Sense}
use Rattle.theory.proofs.Field.{unit_same, unit_other}
use Rattle.tables.specs.Table.{row_part, row_in}
use Rattle.tables.specs.Senses.{SharesTotal}
use Rattle.tables.specs.Match.{Answered}
use Rattle.tables.specs.Class.{AlikeIn, Passes}
use Rattle.tables.proofs.Tables.{zero_counts, row_at, lent_row}

-- One count set in a list of none.
pub token_counts : (n k : ℕ) → k < n → at (set (replicate n 0) k 1) ≡ unit k
token_counts n k h = fun_ext (λ j. go j (ℕ_discrete j k))
  where
    go : (j : ℕ) → Dec (j ≡ k) → at (set (replicate n 0) k 1) j ≡ unit k j
    go j (yes e) = rw (e, get_or-set_same {A = ℕ} (replicate n 0) k 1 0 (omega (arith, length-replicate {A = ℕ} n 0)), unit_same k)
    go j (no d) = rw (get_or-set_other {A = ℕ} (replicate n 0) k j 1 0 d, zero_counts n j, unit_other k j d)

-- A kind that is its own row may use the lines that its row may.
pub atom_uses : (lines classes : List ℕ) (k : ℕ) {f : Field} → f ≡ unit k → AlikeIn lines classes (unit k) f
atom_uses lines classes k e = rw e (λ x. ((λ u. u), (λ u. u)))

-- A test of the part of a table that holds a row is that of the row.
pub uses_row : {r : Bool} {row : List ℕ} (rows lines classes : List ℕ) (k : ℕ) → row ≡ row_part rows k → (r ≡ true) ↔ AlikeIn lines classes (unit k) (at row)
    → (r ≡ true) ↔ AlikeIn lines classes (unit k) (row_in rows k)
uses_row {r} rows lines classes k e t = subst (λ (f : Field). (r ≡ true) ↔ AlikeIn lines classes (unit k) f) (lent_row rows k e) t

pub shares_row : {r : Bool} {row : List ℕ} (sense : Sense) (rows : List ℕ) (k : ℕ) → row ≡ row_part rows k → (r ≡ true) ↔ SharesTotal sense (at row)
    → (r ≡ true) ↔ SharesTotal sense (row_in rows k)
shares_row {r} sense rows k e t = subst (λ (f : Field). (r ≡ true) ↔ SharesTotal sense f) (lent_row rows k e) t

-- The test of a kind's own count in its row.
pub own_one : (rows : List ℕ) (k : ℕ) → k < most_kinds → (eqb (at rows (k * most_kinds + k)) 1 ≡ true) ↔ (row_in rows k k ≡ 1)
own_one rows k h =
    (λ t. row_at rows k k h ∙ eqb-true (at rows (k * most_kinds + k)) 1 t, λ e. eq-eqb (at rows (k * most_kinds + k)) 1 (sym (row_at rows k k h) ∙ e))

-- The tests, where the first two hold.
pub passes_tells : {sense : Sense} {r : Bool} {lines rows forms classes : List ℕ} {k : ℕ} → SharesTotal sense (row_in rows k) → AlikeIn lines classes (unit k) (row_in rows k)
    → (r ≡ true) ↔ Answered lines rows forms k → (r ≡ true) ↔ Passes sense lines rows forms classes k
passes_tells shared alike tells = (λ h. record { shares = shared; uses = alike; answered = tells.0 h }, λ p. tells.1 p.answered)
