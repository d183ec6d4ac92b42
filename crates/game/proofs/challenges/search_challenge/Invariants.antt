-- None of the challenges passed can be made.
use Rattle.model.specs.Field.{at}
use Rattle.game.specs.Challenges.{challenge_of, may_challenge}
use Rattle.moves.proofs.Searches.{Searching}
use Rattle.game.proofs.challenges.search_challenge.Given as goal

abbrev pub invariant-loop-number : goal.invariant-loop-number
invariant-loop-number l = Searching (λ j. may_challenge (at l.first) (at l.second) (challenge_of l.sheet j)) l.from l.to l.number
