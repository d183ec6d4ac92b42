-- Counts, their sums and arrays of them, of any width.
use mathlib.Core.Bool.{Bool, true, false}
use mathlib.Core.Path.{◌≡◌, refl}
use Prim.Native.Nat.{ℕ, zero, suc, ◌+◌, ◌*◌, ◌≤◌, ◌<◌}
use native.Mathlib.Decide.{dec_lt}
use native.Mathlib.Nat.{mul-le-mul, mul-le-mul_right}
use native.Mathlib.Omega.{arith}
use borrow.Author.Count.{below_more}
use lib.Dec.{T}
use lib.ListN.{replicate, get_or-replicate}
use Rattle.model.specs.Field.{Field, weigh, at, tokens}
use Rattle.model.specs.Norm.{ready}
use Rattle.theory.proofs.Exec.{Tells}
use Rattle.theory.proofs.Field.{weigh_next, weigh_weights}
use Rattle.theory.proofs.Sweeps.{Ready, tells_ready}

-- A sum over fewer kinds is no more than one over all.
pub weigh_prefix : (i n : ℕ) (w : ℕ → ℕ) (a : Field) → i ≤ n → weigh i w a ≤ weigh n w a
unfolding weigh
weigh_prefix i zero w a h = let z : i ≡ 0 = omega arith in rw z (omega arith)
weigh_prefix i (suc n) w a h = go (dec_lt n i) (weigh_prefix i n w a)
  where
    go : Dec (n < i) → (i ≤ n → weigh i w a ≤ weigh n w a) → weigh i w a ≤ weigh n w a + a n * w n
    go (yes q) f = let z : i ≡ suc n = omega arith in rw z (omega arith)
    go (no q) f = omega (arith, f (omega arith))

-- One step of a loop over the kinds stays within a sum that fits.
pub weigh_step : (i n : ℕ) (w : ℕ → ℕ) (a : Field) → i < n → weigh i w a + a i * w i ≤ weigh n w a
weigh_step i n w a h = rw (← weigh_next i w a) (weigh_prefix (i + 1) n w a (omega arith))

-- One turn of a loop that sums: the sum fits where the whole does, and is over one kind more.
pub record SumMore (i : ℕ) (w : ℕ → ℕ) (a : Field) (sum product bound : ℕ) : Type 0 where
  pub sum_fits : sum + product < bound
  pub sum_is : sum + product ≡ weigh (i + 1) w a

pub sum_more : (i n : ℕ) (w : ℕ → ℕ) (a : Field) (bound sum x y : ℕ) → i < n → weigh n w a < bound → sum ≡ weigh i w a → x ≡ a i → y ≡ w i
    → SumMore i w a sum (x * y) bound
sum_more i n w a bound sum x y h fits e p q =
    let z : x * y ≡ a i * w i = rw (p, q) in
    let u = weigh_step i n w a h in
    record { sum_fits = omega arith; sum_is = omega (arith, weigh_next i w a) }

-- A kind without tokens adds nothing.
pub sum_same : (i : ℕ) (w : ℕ → ℕ) (a : Field) → a i ≡ 0 → weigh i w a ≡ weigh (i + 1) w a
sum_same i w a e = let z : a i * w i ≡ 0 = rw e (omega arith) in omega (arith, weigh_next i w a)

-- A sum of n parts, none of them over x.
pub weigh_most : (n : ℕ) (w : ℕ → ℕ) (a : Field) (x : ℕ) → ((k : ℕ) → k < n → a k * w k ≤ x) → weigh n w a ≤ n * x
unfolding weigh
weigh_most zero w a x h = omega arith
weigh_most (suc n) w a x h = omega (arith, weigh_most n w a x (λ k i. h k (omega arith)), h n (omega arith))

-- A sum of at most m parts, no count over x and no weight over y.
pub weigh_within : (n m x y : ℕ) (w : ℕ → ℕ) (a : Field) → n ≤ m → ((k : ℕ) → k < n → a k ≤ x) → ((k : ℕ) → k < n → w k ≤ y) → weigh n w a ≤ m * (x * y)
weigh_within n m x y w a h p q =
    let u : n * (x * y) ≤ m * (x * y) = mul-le-mul_right (x * y) h in
    omega (arith, weigh_most n w a (x * y) (λ k i. mul-le-mul (p k i) (q k i)))

-- What a test that decides a type comes to.
pub tells_true : {b : Bool} {A : Type 0} → Tells b A → A → b ≡ true
tells_true {b} t a = go b (t.test a)
  where
    go : (b : Bool) → T b → b ≡ true
    go true u = refl
    go false u = absurd u

pub tells_false : {b : Bool} {A : Type 0} → Tells b A → ¬ A → b ≡ false
tells_false {b} t n = go b (λ u. n (t.fact u))
  where
    go : (b : Bool) → ¬ T b → b ≡ false
    go true u = absurd (u tt)
    go false u = refl

pub ready_true : (n : ℕ) (w : ℕ → ℕ) (a : Field) → Ready n w a → ready n w a ≡ true
ready_true n w a h = tells_true (tells_ready n w a) h

pub ready_false : (n : ℕ) (w : ℕ → ℕ) (a : Field) (k : ℕ) → k < n → 0 < a k → w k ≡ 0 → ready n w a ≡ false
ready_false n w a k h p z = tells_false (tells_ready n w a) (λ f. omega (arith, f k h p))

-- One kind more of a loop that looks for a kind without a value.
pub ready_more : (i : ℕ) (w : ℕ → ℕ) (a : Field) → Ready i w a → (0 < a i → 0 < w i) → Ready (i + 1) w a
ready_more i w a all here = below_more (λ k. 0 < a k → 0 < w k) i all here

-- Where each kind counts 1 the sum is the tokens.
pub tokens_are : (n m : ℕ) (a : Field) → n ≤ m → weigh n (at (replicate m 1)) a ≡ tokens n a
tokens_are n m a h = weigh_weights n (at (replicate m 1)) (λ _. 1) a (λ k l _. get_or-replicate m k 1 0 (omega arith))
