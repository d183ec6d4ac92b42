-- How often counts go into counts, and what is left: over any number of kinds and any two fields.
use mathlib.Core.Bool.{Bool, true, false}
use mathlib.Core.Path.{◌≡◌, refl, ◌∙◌, ap}
use Prim.Native.Nat.{ℕ, zero, suc, ◌+◌, ◌*◌, ◌≤◌, ◌<◌}
use native.Mathlib.Decide.{ℕ_discrete}
use native.Mathlib.Nat.{mul-le-mul_left}
use native.Mathlib.Omega.{arith}
use lib.Dec.{T, leb→le, le→leb}
use Rattle.model.specs.Finite.{greatest_to}
use Rattle.model.specs.Field.{Field, tokens}
use Rattle.model.specs.Squads.{goes_in, times_in, remainder}
use Rattle.theory.proofs.Field.{weigh_part}
use Rattle.theory.proofs.Exec.{Tells}
use Rattle.theory.proofs.Lists.{tells_below}

-- The greatest number that passes a test.
module _ (p : ℕ → Bool) where
  -- The number m + 1 if it passes, else the greatest below it that does.
  abbrev Either : ℕ → Bool → ℕ
  Either m b = elim b as (λ _. ℕ) [ true ↦ suc m | false ↦ greatest_to p m ]

  pub greatest_passes : (m : ℕ) → T (p 0) → T (p (greatest_to p m))
  unfolding greatest_to
  greatest_passes zero h = h
  greatest_passes (suc m) h = go (p (suc m)) refl (greatest_passes m h)
    where
      go : (b : Bool) → p (suc m) ≡ b → T (p (greatest_to p m)) → T (p (Either m b))
      go true e f = rw e tt
      go false e f = f

  pub greatest_most : (m : ℕ) → greatest_to p m ≤ m
  unfolding greatest_to
  greatest_most zero = omega arith
  greatest_most (suc m) = go (p (suc m)) (greatest_most m)
    where
      go : (b : Bool) → greatest_to p m ≤ m → Either m b ≤ suc m
      go true f = omega arith
      go false f = omega arith

  pub greatest_above : (m q : ℕ) → q ≤ m → T (p q) → q ≤ greatest_to p m
  unfolding greatest_to
  greatest_above zero q h t = h
  greatest_above (suc m) q h t = go (p (suc m)) refl (ℕ_discrete q (suc m)) (λ i. greatest_above m q i t)
    where
      go : (b : Bool) → p (suc m) ≡ b → Dec (q ≡ suc m) → (q ≤ m → q ≤ greatest_to p m) → q ≤ Either m b
      go true e d f = h
      go false e (yes z) f = absurd (rw (ap T (ap p z ∙ e)) at t)
      go false e (no z) f = f (omega arith)

  -- A number that passes, and that no number up to m which passes is above, is the greatest.
  pub greatest_only : (m q : ℕ) → T (p 0) → T (p q) → q ≤ m → ((r : ℕ) → r ≤ m → T (p r) → r ≤ q) → q ≡ greatest_to p m
  greatest_only m q none t h f =
      omega (arith, greatest_above m q h t, f (greatest_to p m) (greatest_most m) (greatest_passes m none))

module _ (n : ℕ) (whole squad : Field) where
  abbrev times_in_is : ℕ
  times_in_is = times_in n whole squad

  pub tells_goes : (q : ℕ) → Tells (goes_in n whole squad q) ((k : ℕ) → k < n → q * squad k ≤ whole k)
  unfolding goes_in
  tells_goes q = tells_below _ _ (λ k. record { fact = leb→le (q * squad k) (whole k); test = le→leb (q * squad k) (whole k) }) n

  -- It goes in at each kind.
  pub times_fit : (k : ℕ) → k < n → times_in_is * squad k ≤ whole k
  unfolding times_in
  times_fit = (tells_goes times_in_is).fact (greatest_passes (goes_in n whole squad) (tokens n whole) ((tells_goes 0).test (λ k h. omega arith)))

  -- It is the largest that does, where the squad has a token.
  pub times_largest : (q k : ℕ) → k < n → 0 < squad k → ((k : ℕ) → k < n → q * squad k ≤ whole k) → q ≤ times_in_is
  unfolding times_in
  times_largest q k h some f =
      greatest_above (goes_in n whole squad) (tokens n whole) q
      (omega (arith, f k h, mul-le-mul_left q some, weigh_part n (λ _. 1) whole k h)) ((tells_goes q).test f)

  pub times_most : times_in_is ≤ tokens n whole
  unfolding times_in
  times_most = greatest_most (goes_in n whole squad) (tokens n whole)

  -- As many squads as go in, and what is left, are the whole.
  pub remainder_exact : (k : ℕ) → k < n → times_in_is * squad k + remainder n whole squad k ≡ whole k
  unfolding remainder
  remainder_exact k h = omega (arith, times_fit k h)
