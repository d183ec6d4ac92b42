-- The table and the marks are as the filer left them; with no room for the stage nothing is settled.
use mathlib.Core.Path.{refl, sym, ◌∙◌}
use native.Mathlib.Omega.{arith}
use Rattle.model.specs.Answer.{given}
use Rattle.exports.specs.Calls.{stage_values}
use Rattle.arrays.proofs.Replies.{code_is, values_are, reply_gives}
use Rattle.arrays.proofs.Codes.{since_fits}
use Rattle.exports.proofs.SinceOutcomes.{table_is, marks_are, since_short, since_gives, since_refuses, since_kept}
use Rattle.exports.proofs.settle_since.limbatue_settle_since.Goals as goal

pub returns-then-answer-lt1 : goal.returns-then-answer-lt1
returns-then-answer-lt1 c =
    let args = c.args in
    let e = since_short args.sheet.now args.table.now args.since.now args.answer.now c.if-answer-lt1.true in
    record { value = c.short_code.ensures ∙ code_is e; table_after = table_is e; since_after = marks_are e; answer_after = values_are e }

pub refused-requires : goal.refused-requires
refused-requires c =
    let args = c.args in
    since_fits args.sheet.now (λ i. omega (arith, c.type_inv.sheet i)) _ _ args.table.now args.since.now (sym c.in-Err.ensures.result_value)

pub returns-in-Ok : goal.returns-in-Ok
returns-in-Ok c =
    let args = c.args in
    let if1 = c.if-answer-lt1 in
    let settle-since = c.settle_since in
    let stage = c.in-Ok.stage in
    let e = since_gives args.sheet.now args.table.now args.since.now args.answer.now stage (sym c.in-Ok.ensures.result_value) if1.false in
    let g = reply_gives tt tt args.answer.now (stage_values stage) (given (stage_values stage)) refl if1.false in
    record { value = c.reply_value.ensures.value ∙ sym (code_is g) ∙ code_is e; table_after = settle-since.ensures.table_after ∙ table_is e; since_after = settle-since.ensures.since_after ∙ marks_are e; answer_after = c.reply_value.ensures.answer_after ∙ sym (values_are g) ∙ values_are e }

pub returns-in-Err : goal.returns-in-Err
returns-in-Err c =
    let args = c.args in
    let settle-since = c.settle_since in
    let d = sym c.in-Err.ensures.result_value in
    let e = since_refuses args.sheet.now args.table.now args.since.now args.answer.now _ _ d in
    let kept = since_kept args.sheet.now args.table.now args.since.now _ _ d in
    record { value = c.refused.ensures ∙ code_is e; table_after = settle-since.ensures.table_after ∙ kept.0 ∙ table_is e; since_after = settle-since.ensures.since_after ∙ kept.1 ∙ marks_are e; answer_after = values_are e }
