-- The counts below k are those after the line.
use Prim.Native.Nat.{◌+◌}
use Rattle.model.specs.Field.{at}
use Rattle.model.specs.Card.{fire}
use Rattle.model.specs.Sheet.{line_of}
use Rattle.second_reader.proofs.Counts.{Filled}
use Rattle.second_reader.proofs.moves.field_after.Given as goal

abbrev pub invariant-loop-kind : goal.invariant-loop-kind
invariant-loop-kind l = Filled (fire (line_of l.sheet l.line) (at l.field)) (λ q. at l.field q + 255) l.field l.after l.kind
