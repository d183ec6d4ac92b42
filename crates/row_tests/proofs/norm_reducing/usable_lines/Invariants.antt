-- The lines below the one at hand are listed.
use Prim.Native.Nat.{◌<◌}
use Rattle.model.specs.Field.{at}
use Rattle.tables.specs.Lines.{kind_in, LowersIn}
use Rattle.tables.proofs.LineLists.{Listed}
use Rattle.row_tests.proofs.norm_reducing.usable_lines.Given as goal

abbrev pub invariant-loop-line : goal.invariant-loop-line
invariant-loop-line l = Listed (λ j. LowersIn l.lines j × (0 < at l.field (kind_in l.lines j))) l.initial.list l.list l.count l.line
