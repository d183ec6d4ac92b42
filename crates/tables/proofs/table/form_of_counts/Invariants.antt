-- The decomposition of the counts below k stands in out.
use Rattle.tables.proofs.Tables.{Formed}
use Rattle.tables.proofs.table.form_of_counts.Given as goal

abbrev pub invariant-loop-k : goal.invariant-loop-k
invariant-loop-k l = Formed l.counts l.rows l.initial.out l.out l.k
