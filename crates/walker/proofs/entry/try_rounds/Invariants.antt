-- The invariant: what is drawn so far and what the rounds still to be tried come to is what the walk comes to.
use Rattle.model.specs.Field.{at}
use Rattle.model.specs.Sheet.{card_of}
use Rattle.walker.proofs.Tries.{Trying}
use Rattle.walker.proofs.entry.try_rounds.Given as goal

abbrev pub invariant-loop-rounds : goal.invariant-loop-rounds
invariant-loop-rounds l = Trying (card_of l.sheet).lines (at l.first) (at l.second) l.allowance l.limit l.left l.rounds
