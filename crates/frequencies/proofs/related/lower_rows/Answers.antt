use borrow.Author.Rules.{rules}
use mathlib.Core.Path.{◌∙◌}
use Rattle.frequencies.proofs.Rows.{lowered_none, lowered_more, lowered_all, lowered_fits}
use Rattle.frequencies.proofs.related.lower_rows.Goals as goal

pub loop-i-init : goal.loop-i-init
loop-i-init c = lowered_none

pub lower_row-requires : goal.lower_row-requires
lower_row-requires c =
    let loop = c.loop-i in
    let here = c.loop-i-test.true in
    record { rows_len = (loop.invariant.long ∙ c.requires.rows_len.0, c.requires.rows_len.1, c.requires.rows_len.2, c.requires.in_order.under loop.i here); by_index = lowered_fits loop.invariant here c.requires.by_index }

pub loop-i-preserved : goal.loop-i-preserved
loop-i-preserved c =
    let loop = c.loop-i in
    lowered_more loop.invariant c.requires.in_order c.loop-i-test.true (search rules) c.lower_row.ensures

pub returns : goal.returns
returns c = lowered_all c.loop-i.invariant c.loop-i-test.false
