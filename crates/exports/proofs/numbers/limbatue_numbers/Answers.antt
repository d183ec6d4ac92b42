-- A card that was read has the sheet's numbers.
use mathlib.Core.Path.{sym, ◌∙◌}
use native.Mathlib.Omega.{arith}
use Rattle.validation.proofs.Checking.{checked_reads, checked_refused}
use Rattle.arrays.proofs.Codes.{found_fits, sheet_small}
use Rattle.arrays.proofs.Replies.{code_is, values_are}
use Rattle.exports.proofs.Outcomes.{numbers_gives, numbers_refuses}
use Rattle.exports.proofs.numbers.limbatue_numbers.Goals as goal

pub refused-requires : goal.refused-requires
refused-requires c =
    let args = c.args in
    found_fits _ (sheet_small args.sheet.now (λ i. omega (arith, c.type_inv.sheet i))) _ _ (checked_refused args.sheet.now _ _ (sym c.in-Err.ensures))

pub returns-in-Ok : goal.returns-in-Ok
returns-in-Ok c =
    let args = c.args in
    let e = numbers_gives args.sheet.now args.answer.now _ (checked_reads args.sheet.now _ (sym c.in-Ok.ensures)) in
    record { value = c.reply_card.ensures.value ∙ code_is e; answer_after = c.reply_card.ensures.answer_after ∙ values_are e }

pub returns-in-Err : goal.returns-in-Err
returns-in-Err c =
    let args = c.args in
    let e = numbers_refuses args.sheet.now args.answer.now _ _ (checked_refused args.sheet.now _ _ (sym c.in-Err.ensures)) in
    record { value = c.refused.ensures ∙ code_is e; answer_after = values_are e }
