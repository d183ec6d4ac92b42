-- The invariant: none of the lines passed is a reply, and the line has the challenge's code. The measure is the lines left.
use Prim.Native.Nat.{◌-◌}
use Rattle.model.specs.Field.{at}
use Rattle.model.specs.Sheet.{line_of}
use Rattle.moves.proofs.Following.{Seeking}
use Rattle.moves.proofs.lines.next_reply.Given as goal

abbrev pub invariant-loop-line : goal.invariant-loop-line
invariant-loop-line l = Seeking l.sheet (line_of l.sheet l.challenge) (at l.field) l.from l.line

abbrev pub decreases-loop-line : goal.decreases-loop-line
decreases-loop-line l = l.to - l.line
