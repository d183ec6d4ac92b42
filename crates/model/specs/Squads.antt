-- Squads, of request 5 of document 02: how often one field goes into another, and what is left, by counts alone. In quotes stand document 02's own sentences.
use Rattle.std.specs.Prelude.{Bool, ℕ, ◌-◌, ◌*◌, leb}
use Rattle.model.specs.Finite.{all, below, greatest_to}
use Rattle.model.specs.Field.{Field, tokens}

-- "q squads joined with some remainder": a whole of n kinds that has q times the squad's count of each, or more, is q squads and what is left of it.
unfoldable pub goes_in : ℕ → Field → Field → ℕ → Bool
goes_in n whole squad q = all (λ k. leb (q * squad k) (whole k)) (below n)

-- "the largest q". A squad that has a token goes in no more often than the whole has tokens.
unfoldable pub times_in : ℕ → Field → Field → ℕ
times_in n whole squad = greatest_to (goes_in n whole squad) (tokens n whole)

-- "some remainder": what is left when so many squads are taken away.
unfoldable pub remainder : ℕ → Field → Field → Field
remainder n whole squad k = whole k - times_in n whole squad * squad k
