-- How often counts go into counts: kind by kind, each time up to what the kinds before let in.
use mathlib.Core.Bool.{Bool}
use mathlib.Core.Path.{◌≡◌, sym, ◌∙◌, ap}
use Prim.Native.Nat.{ℕ, ◌+◌, ◌-◌, ◌*◌, ◌/◌, ◌≤◌, ◌<◌, min}
use native.Mathlib.Decide.{ℕ_discrete}
use native.Mathlib.Nat.{mul-zero, mul-le-mul_left, mul-le-mul_right, le-div_iff_mul-le}
use native.Mathlib.Omega.{arith}
use lib.Dec.{T, leb, leb→le, le→leb}
use lib.ListN.{get_or}
use Rattle.model.specs.Finite.{list_from, greatest_to}
use Rattle.model.specs.Field.{Field, tokens}
use Rattle.model.specs.Squads.{goes_in, times_in, remainder}
use Rattle.theory.proofs.Field.{weigh_part, weigh_some}
use Rattle.theory.proofs.Lists.{get_d_from}
use Rattle.theory.proofs.Quotients.{greatest_passes, greatest_most, greatest_above, greatest_only, tells_goes, times_fit}
use Rattle.quotients.specs.Kind.{times_up_to}

-- One kind's counts.
module _ (most whole squad : ℕ) where
  abbrev test : ℕ → Bool
  test q = leb (q * squad) whole

  none : T (test 0)
  none = le→leb (0 * squad) whole (omega arith)

  -- The number is it that goes in, if no larger one up to `most` does.
  only : (q : ℕ) → q * squad ≤ whole → q ≤ most → ((r : ℕ) → r ≤ most → r * squad ≤ whole → r ≤ q) → q ≡ times_up_to most whole squad
  unfolding times_up_to
  only q h l f = greatest_only test most q none (le→leb (q * squad) whole h) l (λ r i t. f r i (leb→le (r * squad) whole t))

  pub up_without : squad ≡ 0 → most ≡ times_up_to most whole squad
  up_without e = let z : most * squad ≡ 0 = rw e (mul-zero most) in only most (omega arith) (omega arith) (λ r i _. i)

  module _ (some : 0 < squad) where
    fits : whole / squad * squad ≤ whole
    fits = (le-div_iff_mul-le {k = squad} {x = whole / squad} {y = whole} some).0 (omega arith)

    pub up_some : {times : ℕ} → times ≡ min most (whole / squad) → times ≡ times_up_to most whole squad
    up_some {times} e =
        let h : times ≤ whole / squad = omega (arith, e) in
        only times (omega (arith, fits, mul-le-mul_right squad h)) (omega (arith, e)) (λ r i l. let f : r ≤ whole / squad = (le-div_iff_mul-le {k = squad} {x = r} {y = whole} some).1 l in omega (arith, e))

  up_fits : times_up_to most whole squad * squad ≤ whole
  unfolding times_up_to
  up_fits = leb→le (greatest_to test most * squad) whole (greatest_passes test most none)

  up_within : times_up_to most whole squad ≤ most
  unfolding times_up_to
  up_within = greatest_most test most

  up_above : (q : ℕ) → q ≤ most → q * squad ≤ whole → q ≤ times_up_to most whole squad
  unfolding times_up_to
  up_above q h l = greatest_above test most q h (le→leb (q * squad) whole l)

-- The kinds below k, up to a number that no count passes.
module _ (bound : ℕ) (whole squad : Field) where
  abbrev pub times_of : ℕ → ℕ
  times_of k = greatest_to (goes_in k whole squad) bound

  nothing : (k : ℕ) → T (goes_in k whole squad 0)
  nothing k = (tells_goes k whole squad 0).test (λ j h. omega arith)

  pub begin : bound ≡ times_of 0
  begin = greatest_only (goes_in 0 whole squad) bound bound (nothing 0) ((tells_goes 0 whole squad bound).test (λ j h. absurd (omega arith))) (omega arith) (λ r h _. h)

  pub more : (k times : ℕ) → times ≡ times_of k → times_up_to times (whole k) (squad k) ≡ times_of (k + 1)
  more k times e =
      greatest_only (goes_in (k + 1) whole squad) bound next (nothing (k + 1)) ((tells_goes (k + 1) whole squad next).test (λ j h. each j h (ℕ_discrete j k)))
      (omega (arith, up_within times (whole k) (squad k), greatest_most (goes_in k whole squad) bound)) (λ r h t. largest r h ((tells_goes (k + 1) whole squad r).fact t))
    where
      next : ℕ
      next = times_up_to times (whole k) (squad k)

      before : (j : ℕ) → j < k → times * squad j ≤ whole j
      before = (tells_goes k whole squad times).fact (rw e (greatest_passes (goes_in k whole squad) bound (nothing k)))

      each : (j : ℕ) → j < k + 1 → Dec (j ≡ k) → next * squad j ≤ whole j
      each j h (yes z) = rw z (up_fits times (whole k) (squad k))
      each j h (no z) = omega (arith, before j (omega arith), mul-le-mul_right (squad j) (up_within times (whole k) (squad k)))

      largest : (r : ℕ) → r ≤ bound → ((j : ℕ) → j < k + 1 → r * squad j ≤ whole j) → r ≤ next
      largest r h f =
          let l = greatest_above (goes_in k whole squad) bound r h ((tells_goes k whole squad r).test (λ j i. f j (omega arith))) in
          up_above times (whole k) (squad k) r (omega arith) (f k (omega arith))

  -- After all kinds, where the squad has a token.
  pub end : (n times : ℕ) → ((k : ℕ) → whole k ≤ bound) → 0 < tokens n squad → times ≡ times_of n → times ≡ times_in n whole squad
  unfolding times_in
  end n times small full e =
      greatest_only (goes_in n whole squad) (tokens n whole) times (nothing n) passes (low times goes).1
      (λ r h t. let u = greatest_above (goes_in n whole squad) bound r (low r ((tells_goes n whole squad r).fact t)).0 t in omega arith)
    where
      passes : T (goes_in n whole squad times)
      passes = rw e (greatest_passes (goes_in n whole squad) bound (nothing n))

      goes : (k : ℕ) → k < n → times * squad k ≤ whole k
      goes = (tells_goes n whole squad times).fact passes

      some : (k : ℕ) × (k < n) × (0 < squad k) × (0 < 1)
      some = weigh_some n (λ _. 1) squad full

      -- What goes in is no more than the whole's count of a kind that the squad has.
      low : (r : ℕ) → ((k : ℕ) → k < n → r * squad k ≤ whole k) → (r ≤ bound) × (r ≤ tokens n whole)
      low r f =
          let h : r ≤ whole some.0 = omega (arith, f some.0 some.1, mul-le-mul_left r some.2) in
          (omega (arith, small some.0), omega (arith, weigh_part n (λ _. 1) whole some.0 some.1))

-- What is left of a kind below n.
module _ (n : ℕ) (whole squad : Field) (times : ℕ) (e : times ≡ times_in n whole squad) (k : ℕ) (h : k < n) where
  pub left_fits : times * squad k ≤ whole k
  left_fits = rw e (times_fit n whole squad k h)

  pub left_at : whole k - times * squad k ≡ get_or (list_from (remainder n whole squad) 0 n) k 0
  unfolding remainder
  left_at =
      let z : 0 + k ≡ k = omega arith in
      ap (λ m. whole k - m * squad k) e ∙ sym (get_d_from (remainder n whole squad) 0 n k 0 h ∙ ap (remainder n whole squad) z)
