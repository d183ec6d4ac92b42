-- The settlement is the sheet's, or the sheet is refused.
use Rattle.std.proofs.Common.{◌∙◌}
use Rattle.filer.proofs.Settlements.{settled_here, settled_refused, compare_refuses_sheet}
use Rattle.filer.proofs.compare.compare_settled.Goals as goal

pub compare_accepted-requires : goal.compare_accepted-requires
compare_accepted-requires c = settled_here _ _ c.in-Ok.is c.requires

pub returns-in-Err : goal.returns-in-Err
returns-in-Err c = c.from.ensures ∙ compare_refuses_sheet _ _ _ (settled_refused _ _ c.in-Err.is c.requires) _ _ _
