-- The marks of the field's kinds below k are added.
use Rattle.tables.proofs.Marking.{FieldMarked}
use Rattle.tables.proofs.marks.marks_of_field.Given as goal

abbrev pub invariant-loop-kind : goal.invariant-loop-kind
invariant-loop-kind l = FieldMarked l.marks l.field l.kind l.sum
