-- Sums of counts, kind by kind: "one X goes, the counts come".
use Rattle.std.specs.Prelude.{List, ℕ, ◌+◌, ◌≤◌, ◌<◌, ◌^◌, length}
use Rattle.model.specs.Finite.{list_from}
use Rattle.model.specs.Field.{◌⊕◌, at}

-- The field xs with the counts ys added, as long as xs.
unfoldable pub plus : List ℕ → List ℕ → List ℕ
plus xs ys = list_from (at xs ⊕ at ys) 0 (length xs)

-- The counts have no more kinds than the field, and no sum passes 32 bits.
pub record Addable (xs ys : List ℕ) : Type 0 where
  pub within : length ys ≤ length xs
  pub fits : (k : ℕ) → at xs k + at ys k < 2 ^ 32
