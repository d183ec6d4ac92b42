-- The counts so far, and the field of what is left, are the field sought.
use Prim.Native.Nat.{◌+◌}
use Rattle.shelf.proofs.Loops.{Found}
use Rattle.shelf.proofs.field.field_in.Given as goal

abbrev pub invariant-loop-left : goal.invariant-loop-left
invariant-loop-left l = Found l.kinds l.size l.number l.counts l.i l.left l.rest

abbrev pub decreases-loop-left : goal.decreases-loop-left
decreases-loop-left l = l.i + l.left
