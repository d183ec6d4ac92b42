-- Fields whose rows add up to given counts.
use Rattle.std.specs.Prelude.{List, ℕ, length}
use Rattle.model.specs.Finite.{keep, below}
use Rattle.model.specs.Field.{Field, agree}
use Rattle.model.specs.Limits.{most_kinds}
use Rattle.model.specs.Shelf.{listed}
use Rattle.tables.specs.Table.{form_in}

-- How many of the fields of t tokens that are listed over the kinds, the last first, have, by the rows of a table, these counts as their sum.
unfoldable pub adding_to : List ℕ → List ℕ → ℕ → Field → ℕ
adding_to rows ks t counts = length (keep (λ b. agree (below most_kinds) (form_in most_kinds rows b) counts) (listed ks t))
