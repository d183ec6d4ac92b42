-- What the checks come to, and what an accepted sheet gives.
use Rattle.std.proofs.lemmas.Result.{err_from_is_err_and}
use Rattle.acceptance.proofs.Acceptances.{accepts, found_refused}
use Rattle.validation.proofs.FieldNumbers.{fields_passed, numbers_passed, numbers_refused}
use Rattle.sheet.proofs.Laws.{fields_are}
use Rattle.squads.proofs.Calls.{sheet_refuses, fields_refuse}
use Rattle.squads.proofs.entry.squads.Goals as goal

pub settle_accepted-requires : goal.settle_accepted-requires
settle_accepted-requires c = rw (c.of-settlement.ensures.card, c.of-settlement.ensures.norms) (accepts _ c.in_ok-acceptance.acceptance c.in_ok-acceptance.ensures)

pub returns-in_err-acceptance : goal.returns-in_err-acceptance
returns-in_err-acceptance c =
    let p = err_from_is_err_and c.from_residual.result c.from_residual.ensures.1 in
    let g = sheet_refuses _ c.args.whole c.args.squad c.args.remainder.now _ _ (found_refused _ _ _ c.in_err-acceptance.ensures) in
    record { result_value = rw (p.1, p.2) g.0; remainder_after = g.1 }

pub returns-in_err-check_fields : goal.returns-in_err-check_fields
returns-in_err-check_fields c =
    let X = c.settle_accepted.ensures in
    let p = err_from_is_err_and c.from_residual-in_err-check_fields.result c.from_residual-in_err-check_fields.ensures.1 in
    let g = fields_refuse _ c.args.whole c.args.squad c.args.remainder.now X.accepts.accepted _ _ (rw (fields_are X.accepts.reads) at (numbers_refused _ _ _ _ _ c.in_err-check_fields.ensures)) in
    record { result_value = rw (p.1, p.2) g.0; remainder_after = g.1 }

pub squads_accepted-requires : goal.squads_accepted-requires
squads_accepted-requires c =
    let X = c.settle_accepted.ensures in
    record { reads = (X.accepts.reads, X.accepts.accepted); base_at = X.settled_is.base_is; whole_lt_fields = fields_passed _ _ _ (numbers_passed _ _ _ _ c.in_ok-check_fields.ensures) }
