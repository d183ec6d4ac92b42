-- The marks below i are added.
use Rattle.tables.proofs.Marking.{MarksAdded}
use Rattle.tables.proofs.marks.add_marks.Given as goal

abbrev pub invariant-loop-x : goal.invariant-loop-x
invariant-loop-x l = MarksAdded l.initial.sum l.more l.x l.sum
