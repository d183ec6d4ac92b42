-- The verdict is the filer's, and its refusal fits.
use mathlib.Core.Path.{sym, ◌∙◌, ap}
use native.Mathlib.Omega.{arith}
use Rattle.model.specs.Sense.{finer}
use Rattle.model.specs.Answer.{Answer, Verdict}
use Rattle.filer.specs.Answers.{verdict_of}
use Rattle.arrays.proofs.Codes.{compare_fits}
use Rattle.exports.specs.Calls.{verdict_call}
use Rattle.exports.proofs.compare.limbatue_finer_compare.Goals as goal

pub reply_verdict-requires : goal.reply_verdict-requires
reply_verdict-requires c =
    let args = c.args in
    λ number place e. compare_fits args.sheet.now (λ i. omega (arith, c.type_inv.sheet i)) number place finer args.first args.second (sym c.finer_compare.ensures ∙ ap verdict_of e)

pub returns : goal.returns
returns c =
    let answer = c.args.answer.now in
    let reply = c.reply_verdict in
    record { value = reply.ensures.value ∙ ap (λ (v : Answer Verdict). (verdict_call v answer).code) c.finer_compare.ensures; answer_after = reply.ensures.answer_after ∙ ap (λ (v : Answer Verdict). (verdict_call v answer).values) c.finer_compare.ensures }
