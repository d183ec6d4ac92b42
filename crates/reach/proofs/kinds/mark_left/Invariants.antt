-- The kinds that the lines passed leave, where they are of the kind, are marked.
use Rattle.reach.specs.Kinds.{Leaves}
use Rattle.reach.proofs.Adding.{Added}
use Rattle.reach.proofs.kinds.mark_left.Given as goal

abbrev pub invariant-loop-line : goal.invariant-loop-line
invariant-loop-line l = Added (Leaves l.sheet l.kind) l.line l.initial.marks l.marks
