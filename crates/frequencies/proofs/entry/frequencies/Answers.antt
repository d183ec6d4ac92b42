-- The sheet's checks first.
use Rattle.std.proofs.lemmas.Result.{err_from_is_err_and}
use Rattle.acceptance.proofs.Acceptances.{accepts, found_refused}
use Rattle.frequencies.proofs.Calls.{sheet_refuses}
use Rattle.frequencies.proofs.entry.frequencies.Goals as goal

pub frequencies_accepted-requires : goal.frequencies_accepted-requires
frequencies_accepted-requires c = accepts _ c.in_ok-acceptance.acceptance c.in_ok-acceptance.ensures

pub returns-in_err-acceptance : goal.returns-in_err-acceptance
returns-in_err-acceptance c =
    let p = err_from_is_err_and c.from_residual.result c.from_residual.ensures.1 in
    let g = sheet_refuses _ c.args.field c.args.size c.args.buffer.now _ _ (found_refused _ _ _ c.in_err-acceptance.ensures) in
    record { result_value = rw (p.1, p.2) g.0; buffer_after = g.1 }
