-- The settlement is the sheet's, or the sheet is refused.
use Rattle.filer.proofs.Settlements.{settled_here, settled_refused, form_refuses_sheet}
use Rattle.filer.proofs.form.form_settled.Goals as goal

pub form_accepted-requires : goal.form_accepted-requires
form_accepted-requires c = (_, settled_here _ _ c.in-Ok.is c.requires.1)

pub returns-in-Ok : goal.returns-in-Ok
returns-in-Ok c = λ sense S. c.form_accepted.ensures sense (settled_here _ _ c.in-Ok.is S)

pub returns-in-Err : goal.returns-in-Err
returns-in-Err c = λ sense S. form_refuses_sheet _ _ _ (settled_refused _ _ c.in-Err.is S) sense c.args.field c.args.buffer.now
