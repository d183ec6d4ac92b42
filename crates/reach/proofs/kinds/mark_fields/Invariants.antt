-- The kinds that the fields passed hold are marked.
use Rattle.reach.specs.Kinds.{Holds}
use Rattle.reach.proofs.Adding.{Added}
use Rattle.reach.proofs.kinds.mark_fields.Given as goal

abbrev pub invariant-loop-number : goal.invariant-loop-number
invariant-loop-number l = Added (Holds l.sheet) l.number l.initial.marks l.marks
