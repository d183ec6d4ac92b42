-- The buffer is as the page function left it.
use mathlib.Core.Path.{refl, sym, ◌∙◌}
use Rattle.model.specs.Answer.{given}
use Rattle.exports.specs.Calls.{length_values}
use Rattle.arrays.proofs.Replies.{code_is, lent_is, values_are, reply_gives}
use Rattle.exports.proofs.PageOutcomes.{page_short, page_gives, page_refuses, page_kept, page_fits}
use Rattle.exports.proofs.printing.limbatue_page.Goals as goal

pub returns-then-answer-lt1 : goal.returns-then-answer-lt1
returns-then-answer-lt1 c =
    let args = c.args in
    let e = page_short args.sheet.now args.out.now args.answer.now c.if-answer-lt1.true in
    record { value = code_is e; out_after = lent_is e; answer_after = values_are e }

pub refused-requires : goal.refused-requires
refused-requires c =
    let args = c.args in
    page_fits args.sheet.now args.out.now _ _ (sym c.in-Err.ensures.result_value)

pub returns-in-Ok : goal.returns-in-Ok
returns-in-Ok c =
    let args = c.args in
    let if1 = c.if-answer-lt1 in
    let write-page = c.write_page in
    let length = c.in-Ok.length in
    let e = page_gives args.sheet.now args.out.now args.answer.now length (sym c.in-Ok.ensures.result_value) if1.false in
    let g = reply_gives tt tt args.answer.now (length_values length) (given (length_values length)) refl if1.false in
    record { value = c.reply_value.ensures.value ∙ sym (code_is g) ∙ code_is e; out_after = write-page.ensures.out_after ∙ lent_is e; answer_after = c.reply_value.ensures.answer_after ∙ sym (values_are g) ∙ values_are e }

pub returns-in-Err : goal.returns-in-Err
returns-in-Err c =
    let args = c.args in
    let write-page = c.write_page in
    let d = sym c.in-Err.ensures.result_value in
    let e = page_refuses args.sheet.now args.out.now args.answer.now _ _ d in
    record { value = c.refused.ensures ∙ code_is e; out_after = write-page.ensures.out_after ∙ page_kept args.sheet.now args.out.now _ _ d ∙ lent_is e; answer_after = values_are e }
