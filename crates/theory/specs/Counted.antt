-- Pairs examined and counted, where an allowance may end the count.
use Rattle.std.specs.Prelude.{Bool, true, false, List, ℕ, ◌-◌, ltb}
use Rattle.model.specs.Field.{Field}
use Rattle.model.specs.Card.{Line}
use Rattle.model.specs.Walk.{Seen, examine}
use Rattle.theory.specs.Game.{Side, first, second}

-- Whether what was examined holds, with what is left of the allowance; or spent.
pub data Counted : Type 0 where
  holds fails : ℕ → Counted
  spent : Counted

-- What is not spent, by whether it holds.
abbrev pub outcome : Bool → ℕ → Counted
outcome true left = holds left
outcome false left = fails left

-- "Spent is given if the full count would pass the allowance left."
unfoldable pub cut : ℕ → Seen → Counted
cut left p = elim (ltb left p.count) [ true ↦ spent | false ↦ outcome p.holds (left - p.count) ]

-- "The first side stays first in every later pair, whoever challenged": the pair of the challenger's field x and the other's field y, at r rounds.
unfoldable pub leaves : Side → List Line → ℕ → Field → Field → Seen
leaves first xs r x y = examine xs r x y
leaves second xs r x y = examine xs r y x
