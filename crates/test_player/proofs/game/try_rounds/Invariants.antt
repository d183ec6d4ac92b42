-- What is left of the budget, at the rounds after those tried, comes to what all of it comes to from the first.
use mathlib.Core.Path.{◌≡◌}
use Prim.Native.Nat.{◌-◌}
use Rattle.model.specs.Field.{at}
use Rattle.model.specs.Sheet.{card_of}
use Rattle.test_player.specs.Played.{sense_of, tried}
use Rattle.test_player.proofs.game.try_rounds.Given as goal

abbrev pub invariant-loop-rounds : goal.invariant-loop-rounds
invariant-loop-rounds l = tried (sense_of l.totals) (card_of l.sheet) (at l.first) (at l.second) l.left l.rounds (l.limit - l.rounds) ≡ tried (sense_of l.totals) (card_of l.sheet) (at l.first) (at l.second) l.budget 0 l.limit
