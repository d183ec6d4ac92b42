-- Laws of calls with as many numbers as they take.
use mathlib.Core.List.{List, [], ◌∷◌}
use mathlib.Core.Path.{◌≡◌, refl}
use Prim.Native.Nat.{ℕ, ◌≤◌, ◌<◌}
use native.Mathlib.Omega.{arith}
use lib.ListN.{length, get_or}
use Rattle.replies.specs.Told.{Told, no_call}
use Rattle.replies.specs.Numbers.{with_none, with_one, with_two, with_four_or_five}

pub none_taken : (call : Told) (xs : List ℕ) → length xs ≡ 0 → call ≡ with_none call xs
unfolding with_none
none_taken call [] e = refl
none_taken call (x ∷ xs) e = absurd (omega arith)

pub none_other : (call : Told) (xs : List ℕ) → ¬ (length xs ≡ 0) → no_call ≡ with_none call xs
unfolding with_none
none_other call [] n = absurd (n refl)
none_other call (x ∷ xs) n = refl

pub one_taken : (call : ℕ → Told) (xs : List ℕ) → length xs ≡ 1 → call (get_or xs 0 0) ≡ with_one call xs
unfolding with_one
one_taken call [] e = absurd (omega arith)
one_taken call (x ∷ []) e = refl
one_taken call (x ∷ y ∷ xs) e = absurd (omega arith)

pub one_other : (call : ℕ → Told) (xs : List ℕ) → ¬ (length xs ≡ 1) → no_call ≡ with_one call xs
unfolding with_one
one_other call [] n = refl
one_other call (x ∷ []) n = absurd (n refl)
one_other call (x ∷ y ∷ xs) n = refl

pub two_taken : (call : ℕ → ℕ → Told) (xs : List ℕ) → length xs ≡ 2 → call (get_or xs 0 0) (get_or xs 1 0) ≡ with_two call xs
unfolding with_two
two_taken call [] e = absurd (omega arith)
two_taken call (x ∷ []) e = absurd (omega arith)
two_taken call (x ∷ y ∷ []) e = refl
two_taken call (x ∷ y ∷ z ∷ xs) e = absurd (omega arith)

pub two_other : (call : ℕ → ℕ → Told) (xs : List ℕ) → ¬ (length xs ≡ 2) → no_call ≡ with_two call xs
unfolding with_two
two_other call [] n = refl
two_other call (x ∷ []) n = refl
two_other call (x ∷ y ∷ []) n = absurd (n refl)
two_other call (x ∷ y ∷ z ∷ xs) n = refl

module _ (call : ℕ → ℕ → ℕ → ℕ → ℕ → Told) where
  -- The fifth number is read as 0 where there are four.
  pub five_taken : (xs : List ℕ) → 4 ≤ length xs → length xs ≤ 5 → call (get_or xs 0 0) (get_or xs 1 0) (get_or xs 2 0) (get_or xs 3 0) (get_or xs 4 0) ≡ with_four_or_five call xs
  unfolding with_four_or_five
  five_taken [] h l = absurd (omega arith)
  five_taken (x ∷ []) h l = absurd (omega arith)
  five_taken (x ∷ y ∷ []) h l = absurd (omega arith)
  five_taken (x ∷ y ∷ z ∷ []) h l = absurd (omega arith)
  five_taken (x ∷ y ∷ z ∷ w ∷ []) h l = refl
  five_taken (x ∷ y ∷ z ∷ w ∷ v ∷ []) h l = refl
  five_taken (x ∷ y ∷ z ∷ w ∷ v ∷ u ∷ xs) h l = absurd (omega arith)

  pub five_fewer : (xs : List ℕ) → length xs < 4 → no_call ≡ with_four_or_five call xs
  unfolding with_four_or_five
  five_fewer [] h = refl
  five_fewer (x ∷ []) h = refl
  five_fewer (x ∷ y ∷ []) h = refl
  five_fewer (x ∷ y ∷ z ∷ []) h = refl
  five_fewer (x ∷ y ∷ z ∷ w ∷ xs) h = absurd (omega arith)

  pub five_more : (xs : List ℕ) → 5 < length xs → no_call ≡ with_four_or_five call xs
  unfolding with_four_or_five
  five_more [] h = absurd (omega arith)
  five_more (x ∷ []) h = absurd (omega arith)
  five_more (x ∷ y ∷ []) h = absurd (omega arith)
  five_more (x ∷ y ∷ z ∷ []) h = absurd (omega arith)
  five_more (x ∷ y ∷ z ∷ w ∷ []) h = absurd (omega arith)
  five_more (x ∷ y ∷ z ∷ w ∷ v ∷ []) h = absurd (omega arith)
  five_more (x ∷ y ∷ z ∷ w ∷ v ∷ u ∷ xs) h = refl
