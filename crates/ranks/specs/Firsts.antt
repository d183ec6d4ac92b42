-- Lists that hold the first line of each class.
use Rattle.std.specs.Prelude.{List, ℕ, ◌<◌}
use Rattle.tables.specs.Match.{EachMatched, LeastMatch, Among}
use Rattle.ranks.specs.Order.{InOrder}

-- The entries of a list are, in the order B, the first lines of the classes of the lines before line n: each is such a line and the least that it matches, by M, and each such line matches one of them.
pub record Firsts (M B : ℕ → ℕ → Type 0) (xs : List ℕ) (n : ℕ) : Type 0 where
  pub in_order : InOrder B xs
  pub before : (x : ℕ) → Among xs x → x < n
  pub least : (x : ℕ) → Among xs x → LeastMatch M x x
  pub each : EachMatched M (λ i. i < n) (Among xs)
