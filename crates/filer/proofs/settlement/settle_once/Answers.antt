-- What the checks come to, and what the settle loop gives where they pass.
use Rattle.std.proofs.lemmas.Result.{err_from_is_err_and}
use Rattle.acceptance.proofs.Acceptances.{accepts, found_refused}
use Rattle.filer.proofs.settlement.settle_once.Goals as goal

pub settle_accepted-requires : goal.settle_accepted-requires
settle_accepted-requires c = rw (c.of-settlement.ensures.card, c.of-settlement.ensures.norms) (accepts _ c.in_ok-acceptance.acceptance c.in_ok-acceptance.ensures)

pub returns-in_err-acceptance : goal.returns-in_err-acceptance
returns-in_err-acceptance c =
    let p = err_from_is_err_and c.from_residual.result c.from_residual.ensures.1 in
    rw (p.1, p.2) (found_refused _ _ _ c.in_err-acceptance.ensures)

pub returns : goal.returns
returns c = c.settle_accepted.ensures
