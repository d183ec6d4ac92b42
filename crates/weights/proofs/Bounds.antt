-- How large sums of norms grow, through the written limits.
use Prim.Native.Nat.{ℕ, suc, ◌^◌, ◌≤◌, ◌<◌}
use native.Mathlib.Omega.{arith}
use Rattle.model.specs.Field.{Field, weigh}
use Rattle.model.specs.Limits.{most_kinds, norm_limit}
use Rattle.weights.proofs.Counts.{weigh_within}

module _ (n : ℕ) (w : ℕ → ℕ) (a : Field) (few : n ≤ most_kinds) (cut : (k : ℕ) → w k ≤ suc norm_limit) where
  -- The values of "n count bytes", though each is cut one past the limit, fit 64 bits.
  pub bytes_fit : ((k : ℕ) → a k ≤ 255) → weigh n w a < 2 ^ 64
  bytes_fit h = omega (arith, weigh_within n most_kinds 255 (suc norm_limit) w a few (λ k _. h k) (λ k _. cut k))

  -- The values of "n counts of two bytes", though each is cut one past the limit, fit 64 bits.
  pub counts_fit : ((k : ℕ) → a k ≤ 65535) → weigh n w a < 2 ^ 64
  counts_fit h = omega (arith, weigh_within n most_kinds 65535 (suc norm_limit) w a few (λ k _. h k) (λ k _. cut k))
