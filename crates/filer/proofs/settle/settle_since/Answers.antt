-- The settlement tells what each return answers, and what is written to the table and to the marks.
use borrow.Author.Rules.{rules}
use native.Mathlib.Omega.{arith}
use lib.ListN.{length, take}
use Rattle.std.proofs.lemmas.List.{length-take}
use mathlib.Core.Path.{◌≡◌}
use Prim.Native.Nat.{◌≤◌}
use Rattle.std.proofs.lemmas.Result.{err_from_is_err_and}
use Rattle.model.specs.Sense.{plain}
use Rattle.sheet.proofs.Laws.{kinds_most}
use Rattle.acceptance.proofs.Acceptances.{accepts, found_refused}
use Rattle.filer.specs.Settlement.{IsSettlement}
use Rattle.filer.proofs.Rows.{square_most}
use Rattle.filer.proofs.Settlements.{since_refuses_sheet, table_too_short, marks_too_short, marks_fit, since_writes}
use Rattle.filer.proofs.settle.settle_since.Goals as goal
use Rattle.filer.proofs.settle.settle_since.Goals.{After-settle_accepted}

settled : (c : After-settle_accepted) → IsSettlement plain c.args.sheet.now c.settle_accepted.new.settlement
settled c = c.settle_accepted.ensures

-- There is a mark for each kind of the card, where as many were lent.
marks_all : (c : After-settle_accepted) → length (take c.settle_accepted.new.settlement.card.kinds c.settle_accepted.new.settlement.settled.base.since) ≡ c.settle_accepted.new.settlement.card.kinds
    → c.settle_accepted.new.settlement.card.kinds ≤ length c.settle_accepted.new.settlement.settled.base.since
marks_all c e = omega (arith, length-take c.settle_accepted.new.settlement.card.kinds c.settle_accepted.new.settlement.settled.base.since)

pub settle_accepted-requires : goal.settle_accepted-requires
settle_accepted-requires c = rw (c.of-settlement.ensures.card, c.of-settlement.ensures.norms) (accepts _ c.in_ok-acceptance.acceptance c.in_ok-acceptance.ensures)

pub overflow_mul-n : goal.overflow_mul-n
overflow_mul-n c = let X = settled (goal.at.overflow_mul-n c).After-settle_accepted in omega (arith, square_most c.settle_accepted.new.settlement.card.kinds (kinds_most X.accepts.reads))

pub returns-then-table-n : goal.returns-then-table-n
returns-then-table-n c =
    let g = table_too_short (settled (goal.at.returns-then-table-n c).After-settle_accepted) c.args.table.now c.args.since.now c.if-table-n.true in
    record { result_value = g.0; table_after = g.1.0; since_after = g.1.1 }

pub returns-then-since-n : goal.returns-then-since-n
returns-then-since-n c =
    let g = marks_too_short (settled (goal.at.returns-then-since-n c).After-settle_accepted) c.args.table.now c.args.since.now c.if-table-n.false c.if-since-n.true in
    record { result_value = g.0; table_after = g.1.0; since_after = g.1.1 }

pub write_table-requires : goal.write_table-requires
write_table-requires c =
    let X = settled (goal.at.write_table-requires c).After-settle_accepted in
    record { rows_len = (search rules, kinds_most X.accepts.reads); kinds_in_bounds = c.if-table-n.false }

pub shared_ref_as_front-narrow : goal.shared_ref_as_front-narrow
shared_ref_as_front-narrow c = kinds_most (settled (goal.at.shared_ref_as_front-narrow c).After-settle_accepted).accepts.reads

pub narrow-requires-clause-by_index : goal.narrow-requires-clause-by_index
narrow-requires-clause-by_index c =
    let at = (goal.at.narrow-requires-clause-by_index c).After-settle_accepted in
    marks_fit (settled at) (marks_all at (search rules)) (λ i. omega (arith, c.type_inv.sheet i))

pub returns-in_err-acceptance : goal.returns-in_err-acceptance
returns-in_err-acceptance c =
    let p = err_from_is_err_and c.from_residual.result c.from_residual.ensures.1 in
    let g = since_refuses_sheet _ _ _ (found_refused _ _ _ c.in_err-acceptance.ensures) c.args.table.now c.args.since.now in
    record { result_value = rw (p.1, p.2) g.0; table_after = g.1.0; since_after = g.1.1 }

pub returns : goal.returns
returns c =
    let at = (goal.at.returns c).After-settle_accepted in
    let g = since_writes (settled at) c.args.table.now c.args.since.now c.if-table-n.false _ _ (marks_all at (search rules)) c.if-since-n.false c.write_table.ensures c.narrow.ensures in
    record { result_value = g.0; table_after = g.1.0; since_after = g.1.1 }
