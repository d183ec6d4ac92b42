-- The rows of the first i kinds are those of the stage before.
use Rattle.frequencies.proofs.Rows.{LoweredTo}
use Rattle.frequencies.proofs.related.lower_rows.Given as goal

abbrev pub invariant-loop-i : goal.invariant-loop-i
invariant-loop-i l = LoweredTo l.kinds l.since l.before l.stage l.initial.rows l.rows l.i
