-- The number so far, and that of the tokens left among the kinds left, are the number sought.
use Rattle.model.specs.Field.{at}
use Rattle.shelf.proofs.Loops.{Numbered}
use Rattle.shelf.proofs.number.number_in.Given as goal

abbrev pub invariant-loop-i : goal.invariant-loop-i
invariant-loop-i l = Numbered l.kinds (at l.field) l.size l.number l.left l.i
