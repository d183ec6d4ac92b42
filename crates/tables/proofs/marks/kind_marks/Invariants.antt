-- The classes of the lines below the one at hand are marked.
use Rattle.tables.proofs.Marking.{KindsMarked}
use Rattle.tables.proofs.marks.kind_marks.Given as goal

abbrev pub invariant-loop-line : goal.invariant-loop-line
invariant-loop-line l = KindsMarked l.lines l.classes l.line l.marks
