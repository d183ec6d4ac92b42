-- Lists of kinds.
use Rattle.std.specs.Prelude.{List, ℕ, ◌≤◌, ◌<◌, length}
use Rattle.model.specs.Field.{at}
use Rattle.model.specs.Limits.{most_kinds}

-- Kinds in number order, as many as a card may have, and numbers of such kinds.
pub record InOrder (kinds : List ℕ) : Type 0 where
  pub many : length kinds ≤ most_kinds
  pub under : (x : ℕ) → x < length kinds → at kinds x < most_kinds
  pub rising : (x y : ℕ) → x < y → y < length kinds → at kinds x < at kinds y
