-- The buffer is as the crate squads left it; with no room for the number nothing is written.
use mathlib.Core.Path.{refl, sym, ◌∙◌}
use Prim.Native.Nat.{◌≤◌}
use native.Mathlib.Omega.{arith}
use lib.ListN.{length}
use Rattle.model.specs.Answer.{given}
use Rattle.exports.specs.Calls.{count_values}
use Rattle.arrays.proofs.Replies.{code_is, lent_is, values_are, reply_gives}
use Rattle.arrays.proofs.Codes.{squads_fits}
use Rattle.exports.proofs.SquadsOutcomes.{squads_short, squads_gives, squads_refuses, squads_kept}
use Rattle.exports.proofs.squad_count.limbatue_squads.Goals as goal

pub returns-then-answer-lt1 : goal.returns-then-answer-lt1
returns-then-answer-lt1 c =
    let args = c.args in
    let e = squads_short args.sheet.now args.whole args.squad args.remainder.now args.answer.now (omega (arith, c.if-answer-lt1.true)) in
    record { value = c.short_squads.ensures ∙ code_is e; remainder_after = lent_is e; answer_after = values_are e }

pub refused-requires : goal.refused-requires
refused-requires c =
    let args = c.args in
    squads_fits args.sheet.now (λ i. omega (arith, c.type_inv.sheet i)) _ _ args.whole args.squad args.remainder.now (sym c.in-Err.ensures.result_value)

pub returns-in-Ok : goal.returns-in-Ok
returns-in-Ok c =
    let args = c.args in
    let if1 = c.if-answer-lt1 in
    let squads = c.squads in
    let count = c.in-Ok.count in
    let room : 1 ≤ length args.answer.now = omega (arith, if1.false) in
    let e = squads_gives args.sheet.now args.whole args.squad args.remainder.now args.answer.now count (sym c.in-Ok.ensures.result_value) room in
    let g = reply_gives tt tt args.answer.now (count_values count) (given (count_values count)) refl room in
    record { value = c.reply_value.ensures.value ∙ sym (code_is g) ∙ code_is e; remainder_after = squads.ensures.remainder_after ∙ lent_is e; answer_after = c.reply_value.ensures.answer_after ∙ sym (values_are g) ∙ values_are e }

pub returns-in-Err : goal.returns-in-Err
returns-in-Err c =
    let args = c.args in
    let squads = c.squads in
    let d = sym c.in-Err.ensures.result_value in
    let e = squads_refuses args.sheet.now args.whole args.squad args.remainder.now args.answer.now _ _ d in
    record { value = c.refused.ensures ∙ code_is e; remainder_after = squads.ensures.remainder_after ∙ squads_kept args.sheet.now args.whole args.squad args.remainder.now _ _ d ∙ lent_is e; answer_after = values_are e }
