-- The settlement tells what each return answers, and what is written.
use borrow.Author.Rules.{rules}
use native.Mathlib.Omega.{arith}
use Rattle.std.proofs.lemmas.Result.{err_from_is_err_and}
use Rattle.model.specs.Sense.{plain}
use Rattle.sheet.proofs.Laws.{kinds_most}
use Rattle.acceptance.proofs.Acceptances.{accepts, found_refused}
use Rattle.filer.specs.Settlement.{IsSettlement}
use Rattle.filer.proofs.Rows.{square_most}
use Rattle.filer.proofs.Settlements.{settle_refuses_sheet, settle_short, settle_writes}
use Rattle.filer.proofs.settle.settle_sheet.Goals as goal
use Rattle.filer.proofs.settle.settle_sheet.Goals.{After-settle_accepted}

settled : (c : After-settle_accepted) → IsSettlement plain c.args.sheet.now c.settle_accepted.new.settlement
settled c = c.settle_accepted.ensures

pub settle_accepted-requires : goal.settle_accepted-requires
settle_accepted-requires c = rw (c.of-settlement.ensures.card, c.of-settlement.ensures.norms) (accepts _ c.in_ok-acceptance.acceptance c.in_ok-acceptance.ensures)

pub overflow_mul-n : goal.overflow_mul-n
overflow_mul-n c = let X = settled (goal.at.overflow_mul-n c).After-settle_accepted in omega (arith, square_most c.settle_accepted.new.settlement.card.kinds (kinds_most X.accepts.reads))

pub returns-then-table-n : goal.returns-then-table-n
returns-then-table-n c =
    let g = settle_short (settled (goal.at.returns-then-table-n c).After-settle_accepted) c.args.table.now c.if-table-n.true in
    record { result_value = g.0; table_after = g.1 }

pub write_table-requires : goal.write_table-requires
write_table-requires c =
    let X = settled (goal.at.write_table-requires c).After-settle_accepted in
    record { rows_len = (search rules, kinds_most X.accepts.reads); kinds_in_bounds = c.if-table-n.false }

pub returns-in_err-acceptance : goal.returns-in_err-acceptance
returns-in_err-acceptance c =
    let p = err_from_is_err_and c.from_residual.result c.from_residual.ensures.1 in
    let g = settle_refuses_sheet _ _ _ (found_refused _ _ _ c.in_err-acceptance.ensures) c.args.table.now in
    record { result_value = rw (p.1, p.2) g.0; table_after = g.1 }

pub returns : goal.returns
returns c =
    let g = settle_writes (settled (goal.at.returns c).After-settle_accepted) c.args.table.now _ c.if-table-n.false c.write_table.ensures in
    record { result_value = g.0; table_after = g.1 }
