-- The counts below i of the row are added.
use Rattle.tables.proofs.Tables.{Added}
use Rattle.tables.proofs.table.add_times.Given as goal

abbrev pub invariant-loop-i : goal.invariant-loop-i
invariant-loop-i l = Added l.count l.initial.sum l.sum l.row l.i
