-- An array with room is written, a short one is not.
use mathlib.Core.Path.{refl, ◌∙◌}
use Rattle.model.specs.Answer.{given, written}
use Rattle.arrays.proofs.Replies.{code_is, values_are, reply_short, reply_gives}
use Rattle.arrays.proofs.reply.reply.Goals as goal

pub returns-then-answer-values : goal.returns-then-answer-values
returns-then-answer-values c =
    let args = c.args in
    let e = reply_short tt tt args.answer.now args.values.now (given args.values.now) refl c.if-answer-values.true in
    record { value = code_is e; answer_after = values_are e }

pub returns : goal.returns
unfolding written
returns c =
    let args = c.args in
    let if1 = c.if-answer-values in
    let e = reply_gives tt tt args.answer.now args.values.now (given args.values.now) refl if1.false in
    record { value = code_is e; answer_after = c.write.ensures ∙ values_are e }
