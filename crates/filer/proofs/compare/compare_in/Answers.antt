-- The settlement is the sheet's, or the sheet is refused.
use Rattle.std.proofs.Common.{◌∙◌}
use Rattle.acceptance.proofs.Acceptances.{accepts, found_refused}
use Rattle.filer.proofs.Settlements.{compare_refuses_sheet}
use Rattle.filer.proofs.compare.compare_in.Goals as goal

pub settle_accepted-requires : goal.settle_accepted-requires
settle_accepted-requires c = rw (c.of-settlement.ensures.card, c.of-settlement.ensures.norms) (accepts _ c.in-Ok.acceptance c.in-Ok.ensures)

pub compare_accepted-requires : goal.compare_accepted-requires
compare_accepted-requires c = c.settle_accepted.ensures

pub returns-in-Ok : goal.returns-in-Ok
returns-in-Ok c = c.compare_accepted.ensures

pub returns-in-Err : goal.returns-in-Err
returns-in-Err c = c.from.ensures ∙ compare_refuses_sheet _ _ _ (found_refused _ _ _ c.in-Err.ensures) _ _ _
