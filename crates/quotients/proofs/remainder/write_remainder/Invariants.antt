-- After each turn what is left of the kinds passed is stored.
use lib.ListN.{length}
use Rattle.model.specs.Finite.{list_from}
use Rattle.model.specs.Field.{at}
use Rattle.model.specs.Squads.{remainder}
use Rattle.theory.proofs.Writing.{Begun}
use Rattle.quotients.proofs.remainder.write_remainder.Given as goal

abbrev pub invariant-loop-kind : goal.invariant-loop-kind
invariant-loop-kind l = Begun (list_from (remainder (length l.whole) (at l.whole) (at l.squad)) 0 (length l.whole)) l.initial.buffer l.kind l.buffer
