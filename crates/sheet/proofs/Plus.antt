-- Sums of counts, over any number of kinds.
use mathlib.Core.List.{List}
use mathlib.Core.Path.{◌≡◌, refl, sym, ◌∙◌, ap, fun_ext}
use Prim.Native.Nat.{ℕ, ◌+◌, ◌≤◌, ◌<◌}
use native.Mathlib.Decide.{dec_lt}
use native.Mathlib.Omega.{arith}
use lib.ListN.{length, get_or, set, get_or-eq_default}
use Rattle.model.specs.Finite.{list_from}
use Rattle.model.specs.Field.{Field, ◌⊕◌, at}
use Rattle.model.specs.Sheet.{counts}
use Rattle.theory.proofs.Lists.{length_from, get_d_from, get_d_past}
use Rattle.sheet.specs.Sum.{plus}
use Rattle.sheet.proofs.Counts.{counts_below, counts_past, counts_next, from_at, from_set}

pub plus_length : (xs ys : List ℕ) → length (plus xs ys) ≡ length xs
unfolding plus
plus_length xs ys = length_from (at xs ⊕ at ys) 0 (length xs)

-- The sum of two lists of counts is the sum of their fields.
pub plus_at : (xs ys : List ℕ) → length ys ≤ length xs → at (plus xs ys) ≡ at xs ⊕ at ys
unfolding plus
plus_at xs ys h = fun_ext (λ k. go k (dec_lt k (length xs)))
  where
    go : (k : ℕ) → Dec (k < length xs) → get_or (list_from (at xs ⊕ at ys) 0 (length xs)) k 0 ≡ at xs k + at ys k
    go k (yes l) = let z : 0 + k ≡ k = omega arith in get_d_from (at xs ⊕ at ys) 0 (length xs) k 0 l ∙ ap (at xs ⊕ at ys) z
    go k (no l) =
        let x : at xs k ≡ 0 = get_or-eq_default xs 0 (omega arith) in
        let y : at ys k ≡ 0 = get_or-eq_default ys 0 (omega arith) in
        get_d_past (at xs ⊕ at ys) 0 (length xs) k 0 (omega arith) ∙ rw (x, y) refl

-- The sum while it is made: the first i of the counts are added.
abbrev pub plus_first : ℕ → List ℕ → List ℕ → List ℕ
plus_first i xs ys = list_from (at xs ⊕ counts i (at ys)) 0 (length xs)

pub plus_none : (xs ys : List ℕ) → xs ≡ plus_first 0 xs ys
plus_none xs ys = from_at xs ∙ ap (λ (f : Field). list_from f 0 (length xs)) (fun_ext same)
  where
    same : (k : ℕ) → at xs k ≡ at xs k + counts 0 (at ys) k
    same k = omega (arith, counts_past 0 (at ys) k (omega arith))

pub plus_all : (xs ys : List ℕ) → plus_first (length ys) xs ys ≡ plus xs ys
unfolding plus
plus_all xs ys = ap (λ (f : Field). list_from (at xs ⊕ f) 0 (length xs)) (fun_ext (λ k. go k (dec_lt k (length ys))))
  where
    go : (k : ℕ) → Dec (k < length ys) → counts (length ys) (at ys) k ≡ at ys k
    go k (yes h) = counts_below (length ys) (at ys) k h
    go k (no h) = counts_past (length ys) (at ys) k (omega arith) ∙ sym (get_or-eq_default ys 0 (omega arith))

module _ (xs ys zs : List ℕ) (i : ℕ) (h : i < length xs) (e : zs ≡ plus_first i xs ys) where
  -- A count that is not reached is as it was.
  pub plus_unread : at zs i ≡ at xs i
  plus_unread =
      let z : 0 + i ≡ i = omega arith in
      let f : Field = at xs ⊕ counts i (at ys) in
      rw e (get_d_from f 0 (length xs) i 0 h ∙ ap f z ∙ last)
    where
      last : at xs i + counts i (at ys) i ≡ at xs i
      last = omega (arith, counts_past i (at ys) i (omega arith))

  -- One count more.
  pub plus_more : (v : ℕ) → v ≡ at ys i → set zs i (at zs i + v) ≡ plus_first (i + 1) xs ys
  plus_more v d =
      rw (plus_unread, d, e)
      (from_set (at xs ⊕ counts i (at ys)) (at xs ⊕ counts (i + 1) (at ys)) (length xs) i (at xs i + at ys i) h here there)
    where
      here : at xs i + at ys i ≡ at xs i + counts (i + 1) (at ys) i
      here = omega (arith, counts_below (i + 1) (at ys) i (omega arith))

      there : (k : ℕ) → (k ≡ i → ⊥) → at xs k + counts i (at ys) k ≡ at xs k + counts (i + 1) (at ys) k
      there k n = omega (arith, counts_next (at ys) i k n)
