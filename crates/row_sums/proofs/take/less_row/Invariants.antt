-- The counts below i are less the row's.
use Rattle.row_sums.proofs.Taking.{Taken}
use Rattle.row_sums.proofs.take.less_row.Given as goal

abbrev pub invariant-loop-kind : goal.invariant-loop-kind
invariant-loop-kind l = Taken l.counts l.row l.left l.kind
