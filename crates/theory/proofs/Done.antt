-- A loop that is done with one kind after another: at first with none, and the number of those left falls.
use mathlib.Core.Bool.{Bool, true, false}
use mathlib.Core.List.{List}
use mathlib.Core.Path.{◌≡◌}
use Prim.Native.Nat.{ℕ, ◌≤◌, ◌<◌}
use native.Mathlib.Decide.{ℕ_discrete, dec_lt}
use native.Mathlib.Omega.{arith}
use lib.ListN.{length, get_or, set, replicate, length-replicate, get_or-replicate, get_or-eq_default}
use lib.Seq.{get_or-set_same, get_or-set_other}
use Rattle.model.specs.Field.{weigh}
use Rattle.theory.proofs.Field.{weigh_less}

-- At the start none is done.
pub none_done : (n k : ℕ) → get_or (replicate n false) k false ≡ false
none_done n k = go (dec_lt k n)
  where
    go : Dec (k < n) → get_or (replicate n false) k false ≡ false
    go (yes l) = get_or-replicate n k false false l
    go (no l) = let past : length (replicate n false) ≤ k = omega (arith, length-replicate n false) in get_or-eq_default (replicate n false) false past

-- 1 for a kind that is not done.
to_do : Bool → ℕ
to_do true = 0
to_do false = 1

-- How many of the n kinds are not done.
pub left_over : ℕ → List Bool → ℕ
left_over n done = weigh n (λ j. to_do (get_or done j false)) (λ j. 1)

-- One kind done leaves one less.
pub fewer_left : (n : ℕ) (done : List Bool) (k : ℕ) → k < n → k < length done → get_or done k false ≡ false → left_over n (set done k true) < left_over n done
unfolding left_over to_do
fewer_left n done k h l e =
    weigh_less n (λ j. to_do (get_or (set done k true) j false)) (λ j. to_do (get_or done j false)) (λ j. 1) (λ j _ _. go j (ℕ_discrete j k)) k h (omega arith) here
  where
    here : to_do (get_or (set done k true) k false) < to_do (get_or done k false)
    here = rw (get_or-set_same done k true false l, e) (omega arith)

    go : (j : ℕ) → Dec (j ≡ k) → to_do (get_or (set done k true) j false) ≤ to_do (get_or done j false)
    go j (yes p) = rw (p, get_or-set_same done k true false l) (omega arith)
    go j (no p) = rw (get_or-set_other done k j true false p) (omega arith)
