-- What the checks come to, and what an accepted sheet gives.
use Rattle.std.proofs.Common.{sym}
use Rattle.std.proofs.lemmas.Result.{err_from_is_err_and}
use Rattle.acceptance.proofs.Acceptances.{accepts, found_refused}
use Rattle.numbering.proofs.Calls.{number_refused}
use Rattle.numbering.proofs.number.shelf_number.Goals as goal

pub number_accepted-requires : goal.number_accepted-requires
number_accepted-requires c = accepts _ c.in_ok-acceptance.acceptance c.in_ok-acceptance.ensures

pub returns-in_err-acceptance : goal.returns-in_err-acceptance
returns-in_err-acceptance c =
    let p = err_from_is_err_and c.from_residual.result c.from_residual.ensures.1 in
    rw (p.1, p.2) (sym (number_refused _ _ _ (found_refused _ _ _ c.in_err-acceptance.ensures) _))
