-- The sheet was settled in the sense that is asked for, or it is refused.
use Rattle.std.proofs.lemmas.Result.{err_from_is_err_and}
use Rattle.acceptance.proofs.Acceptances.{accepts, found_refused}
use Rattle.filer.proofs.Settlements.{form_refuses_sheet}
use Rattle.filer.proofs.form.form_in.Goals as goal

pub settle_accepted-requires : goal.settle_accepted-requires
settle_accepted-requires c = rw (c.of-settlement.ensures.card, c.of-settlement.ensures.norms) (accepts _ c.in_ok-acceptance.acceptance c.in_ok-acceptance.ensures)

pub form_accepted-requires : goal.form_accepted-requires
form_accepted-requires c = (_, c.settle_accepted.ensures)

pub returns-in_err-acceptance : goal.returns-in_err-acceptance
returns-in_err-acceptance c =
    let p = err_from_is_err_and c.from_residual.result c.from_residual.ensures.1 in
    let g = form_refuses_sheet _ _ _ (found_refused _ _ _ c.in_err-acceptance.ensures) _ c.args.field c.args.buffer.now in
    record { result_value = rw (p.1, p.2) g.0; buffer_after = g.1 }

pub returns : goal.returns
returns c =
    let g = c.form_accepted.ensures _ c.settle_accepted.ensures in
    record { result_value = g.0; buffer_after = g.1 }
