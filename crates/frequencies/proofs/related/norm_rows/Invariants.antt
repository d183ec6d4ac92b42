-- The rows of the kinds below this one are set.
use Rattle.frequencies.proofs.Rows.{NormRows}
use Rattle.frequencies.proofs.related.norm_rows.Given as goal

abbrev pub invariant-loop-kind : goal.invariant-loop-kind
invariant-loop-kind l = NormRows l.norms l.table l.kind
