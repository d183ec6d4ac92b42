-- Lists of counts as fields, of any width; a list, and the members of it that pass a test, from one place before.
use mathlib.Core.Bool.{Bool, true, false}
use mathlib.Core.List.{◌∷◌}
use mathlib.Core.Path.{◌≡◌, sym, ◌∙◌, ap, fun_ext}
use Prim.Native.Nat.{ℕ, suc, ◌+◌, ◌-◌, ◌≤◌, ◌<◌}
use native.Mathlib.Decide.{dec_lt}
use native.Mathlib.Omega.{arith}
use lib.ListN.{get_or}
use Rattle.model.specs.Finite.{keep, list_from}
use Rattle.model.specs.Field.{Field, at}
use Rattle.model.specs.Sheet.{counts}
use Rattle.theory.proofs.Lists.{get_d_from, get_d_past}
use Rattle.theory.proofs.Shelves.{keep_yes, keep_no}
use Rattle.sheet.proofs.Counts.{counts_below, counts_past}

-- An array of m counts is the field of them, where it has no kinds past them.
pub array_at : (m : ℕ) (f : Field) → ((k : ℕ) → m ≤ k → f k ≡ 0) → at (list_from f 0 m) ≡ f
array_at m f h = fun_ext (λ k. go k (dec_lt k m))
  where
    go : (k : ℕ) → Dec (k < m) → get_or (list_from f 0 m) k 0 ≡ f k
    go k (yes l) = let z : 0 + k ≡ k = omega arith in get_d_from f 0 m k 0 l ∙ ap f z
    go k (no l) = get_d_past f 0 m k 0 (omega arith) ∙ sym (h k (omega arith))

-- A list of n counts has none past them.
pub list_at : (n : ℕ) (f : ℕ → ℕ) → at (list_from f 0 n) ≡ counts n f
list_at n f = fun_ext (λ k. go k (dec_lt k n))
  where
    go : (k : ℕ) → Dec (k < n) → get_or (list_from f 0 n) k 0 ≡ counts n f k
    go k (yes l) = let z : 0 + k ≡ k = omega arith in get_d_from f 0 n k 0 l ∙ ap f z ∙ sym (counts_below n f k l)
    go k (no l) = get_d_past f 0 n k 0 (omega arith) ∙ sym (counts_past n f k (omega arith))

-- A list, from one place before.
pub list_back : {A : Type 0} (f : ℕ → A) (j m : ℕ) → 0 < j → j ≤ m → list_from f (j - 1) (m - (j - 1)) ≡ f (j - 1) ∷ list_from f j (m - j)
unfolding list_from
list_back f j m h i =
    let z : m - (j - 1) ≡ suc (m - j) = omega arith in
    let y : suc (j - 1) ≡ j = omega arith in
    rw (z, y)

-- The members of a list that pass a test, from one place before: the member there comes first if it passes, and else nothing changes.
module _ {A : Type 0} (test : A → Bool) (f : ℕ → A) (j m : ℕ) (h : 0 < j) (i : j ≤ m) where
  pub keep_in : test (f (j - 1)) ≡ true → keep test (list_from f (j - 1) (m - (j - 1))) ≡ f (j - 1) ∷ keep test (list_from f j (m - j))
  keep_in e = ap (keep test) (list_back f j m h i) ∙ keep_yes test (f (j - 1)) (list_from f j (m - j)) e

  pub keep_out : test (f (j - 1)) ≡ false → keep test (list_from f (j - 1) (m - (j - 1))) ≡ keep test (list_from f j (m - j))
  keep_out e = ap (keep test) (list_back f j m h i) ∙ keep_no test (f (j - 1)) (list_from f j (m - j)) e
