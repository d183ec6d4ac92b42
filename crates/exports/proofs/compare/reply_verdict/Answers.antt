-- Each case of the verdict by its values.
use mathlib.Core.Path.{◌∙◌, ap}
use Rattle.model.specs.Answer.{same, different}
use Rattle.filer.specs.Answers.{verdict_of}
use Rattle.arrays.proofs.Replies.{code_is, values_are}
use Rattle.exports.proofs.Outcomes.{verdict_gives, verdict_refuses}
use Rattle.exports.proofs.compare.reply_verdict.Goals as goal

pub refusal_code-requires : goal.refusal_code-requires
refusal_code-requires c = c.requires _ _ c.in-Refused.is

pub returns-in-Same : goal.returns-in-Same
returns-in-Same c =
    let args = c.args in
    let e = verdict_gives args.answer.now _ same (ap verdict_of c.in-Same.is) in
    record { value = c.reply_same.ensures.value ∙ code_is e; answer_after = c.reply_same.ensures.answer_after ∙ values_are e }

pub returns-in-Different : goal.returns-in-Different
returns-in-Different c =
    let args = c.args in
    let e = verdict_gives args.answer.now _ (different _ _) (ap verdict_of c.in-Different.is) in
    record { value = c.reply_different.ensures.value ∙ code_is e; answer_after = c.reply_different.ensures.answer_after ∙ values_are e }

pub returns-in-Refused : goal.returns-in-Refused
returns-in-Refused c =
    let args = c.args in
    let e = verdict_refuses args.answer.now _ _ _ (ap verdict_of c.in-Refused.is) in
    record { value = c.refusal_code.ensures ∙ code_is e; answer_after = values_are e }
