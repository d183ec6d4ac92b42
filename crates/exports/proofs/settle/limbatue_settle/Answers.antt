-- The table is as the filer left it; with no room for the stage nothing is settled.
use mathlib.Core.Path.{refl, sym, ◌∙◌}
use native.Mathlib.Omega.{arith}
use Rattle.model.specs.Answer.{given}
use Rattle.exports.specs.Calls.{stage_values}
use Rattle.arrays.proofs.Replies.{code_is, lent_is, values_are, reply_gives}
use Rattle.arrays.proofs.Codes.{settle_fits}
use Rattle.exports.proofs.Outcomes.{settle_short, settle_gives, settle_refuses, settle_kept}
use Rattle.exports.proofs.settle.limbatue_settle.Goals as goal

pub returns-then-answer-lt1 : goal.returns-then-answer-lt1
returns-then-answer-lt1 c =
    let args = c.args in
    let e = settle_short args.sheet.now args.table.now args.answer.now c.if-answer-lt1.true in
    record { value = c.short_code.ensures ∙ code_is e; table_after = lent_is e; answer_after = values_are e }

pub refused-requires : goal.refused-requires
refused-requires c =
    let args = c.args in
    settle_fits args.sheet.now (λ i. omega (arith, c.type_inv.sheet i)) _ _ args.table.now (sym c.in-Err.ensures.result_value)

pub returns-in-Ok : goal.returns-in-Ok
returns-in-Ok c =
    let args = c.args in
    let if1 = c.if-answer-lt1 in
    let settle-sheet = c.settle_sheet in
    let stage = c.in-Ok.stage in
    let e = settle_gives args.sheet.now args.table.now args.answer.now stage (sym c.in-Ok.ensures.result_value) if1.false in
    let g = reply_gives tt tt args.answer.now (stage_values stage) (given (stage_values stage)) refl if1.false in
    record { value = c.reply_value.ensures.value ∙ sym (code_is g) ∙ code_is e; table_after = settle-sheet.ensures.table_after ∙ lent_is e; answer_after = c.reply_value.ensures.answer_after ∙ sym (values_are g) ∙ values_are e }

pub returns-in-Err : goal.returns-in-Err
returns-in-Err c =
    let args = c.args in
    let settle-sheet = c.settle_sheet in
    let d = sym c.in-Err.ensures.result_value in
    let e = settle_refuses args.sheet.now args.table.now args.answer.now _ _ d in
    record { value = c.refused.ensures ∙ code_is e; table_after = settle-sheet.ensures.table_after ∙ settle_kept args.sheet.now args.table.now _ _ d ∙ lent_is e; answer_after = values_are e }
