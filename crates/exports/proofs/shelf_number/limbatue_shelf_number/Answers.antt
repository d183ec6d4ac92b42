-- The size and the number are the answer's values.
use mathlib.Core.Path.{sym, ◌∙◌}
use native.Mathlib.Omega.{arith}
use Rattle.arrays.proofs.Codes.{shelf_number_fits}
use Rattle.arrays.proofs.Replies.{code_is, values_are}
use Rattle.exports.proofs.Outcomes.{shelf_number_gives, shelf_number_refuses}
use Rattle.exports.proofs.shelf_number.limbatue_shelf_number.Goals as goal

pub refused-requires : goal.refused-requires
refused-requires c =
    let args = c.args in
    shelf_number_fits args.sheet.now (λ i. omega (arith, c.type_inv.sheet i)) _ _ args.field (sym c.in-Err.ensures)

pub returns-in-Ok : goal.returns-in-Ok
returns-in-Ok c =
    let args = c.args in
    let e = shelf_number_gives args.sheet.now args.field args.answer.now _ (sym c.in-Ok.ensures) in
    record { value = c.reply_shelved.ensures.value ∙ code_is e; answer_after = c.reply_shelved.ensures.answer_after ∙ values_are e }

pub returns-in-Err : goal.returns-in-Err
returns-in-Err c =
    let args = c.args in
    let e = shelf_number_refuses args.sheet.now args.field args.answer.now _ _ (sym c.in-Err.ensures) in
    record { value = c.refused.ensures ∙ code_is e; answer_after = values_are e }
