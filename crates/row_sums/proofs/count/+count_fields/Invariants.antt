-- `count_fields`, which calls itself: the size falls. Of the fields over the first i kinds, so many have rows that add up to the counts.
use Rattle.row_sums.proofs.Loops.{Counted}
use Rattle.row_sums.proofs.count.+count_fields.Given as goal

abbrev pub decreases-count_fields : goal.decreases-count_fields
decreases-count_fields l = l.size

abbrev pub invariant-loop-i : goal.invariant-loop-i
invariant-loop-i l = Counted l.rows l.kinds l.size l.counts l.found l.i
