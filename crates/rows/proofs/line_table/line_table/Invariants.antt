-- The lines before the one at hand are in the table.
use Rattle.rows.proofs.LineTable.{Filled}
use Rattle.rows.proofs.line_table.line_table.Given as goal

abbrev pub invariant-loop-line : goal.invariant-loop-line
invariant-loop-line l = Filled l.sheet l.lines l.line l.table
