-- How often a count goes into another.
use Rattle.std.specs.Prelude.{ℕ, ◌*◌, leb}
use Rattle.model.specs.Finite.{greatest_to}

-- The largest q up to `most` of which q times the squad's count is no more than the whole's.
unfoldable pub times_up_to : ℕ → ℕ → ℕ → ℕ
times_up_to most whole squad = greatest_to (λ q. leb (q * squad) whole) most
