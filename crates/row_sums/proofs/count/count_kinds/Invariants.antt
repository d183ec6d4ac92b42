-- Of the first i kinds, so many have the counts as their row.
use Rattle.row_sums.proofs.Loops.{Counted}
use Rattle.row_sums.proofs.count.count_kinds.Given as goal

abbrev pub invariant-loop-i : goal.invariant-loop-i
invariant-loop-i l = Counted l.rows l.kinds 1 l.counts l.found l.i
