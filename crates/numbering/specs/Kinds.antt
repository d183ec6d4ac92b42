-- The kinds that the listing runs over, by their norms.
use Rattle.std.specs.Prelude.{List, ℕ, ltb}
use Rattle.model.specs.Finite.{keep, below}
use Rattle.model.specs.Field.{at}

-- The kinds below n that have a norm, in number order; 0 is a kind that has none.
unfoldable pub normed_kinds : ℕ → List ℕ → List ℕ
normed_kinds n norms = keep (λ k. ltb 0 (at norms k)) (below n)
