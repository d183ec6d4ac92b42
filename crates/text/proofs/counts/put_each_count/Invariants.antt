-- `put_each_count`: after i turns the first i counts are appended.
use Rattle.model.specs.Finite.{concat, list_from}
use Rattle.text.specs.Appended.{Appended}
use Rattle.text.specs.Lengths.{most_counts}
use Rattle.text.proofs.Sequence.{count_at}
use Rattle.text.proofs.counts.put_each_count.Given as goal

abbrev pub invariant-loop-count : goal.invariant-loop-count
invariant-loop-count l = Appended (most_counts l.count-index) l.initial.out l.initial.next (concat (list_from (count_at l.counts) 0 l.count-index)) l.out l.next
