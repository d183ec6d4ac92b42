use Rattle.tables.proofs.Tables.{added_none, added_more, added_all, added_bound}
use Rattle.tables.proofs.table.add_times.Goals as goal

pub loop-i-init : goal.loop-i-init
loop-i-init c = added_none c.requires.row_in_bounds

pub overflow_add-sum : goal.overflow_add-sum
overflow_add-sum c = record { fits = added_bound c.loop-i.invariant c.requires.by_index _ c.from.ensures }

pub loop-i-preserved : goal.loop-i-preserved
loop-i-preserved c = added_more c.loop-i.invariant _ c.from.ensures c.loop-i-test.true

pub returns : goal.returns
returns c = added_all c.loop-i.invariant c.loop-i-test.false
