-- The kinds before the one at hand and their rows may use lines of the same classes.
use Rattle.tables.specs.Class.{RowsExpand}
use Rattle.row_tests.proofs.expansion.rows_expand.Given as goal

abbrev pub invariant-loop-kind : goal.invariant-loop-kind
invariant-loop-kind l = RowsExpand l.lines l.classes l.rows l.norms l.kind
