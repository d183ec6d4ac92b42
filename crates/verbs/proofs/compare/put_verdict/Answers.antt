-- `put_verdict`: the word of each case of the verdict.
use mathlib.Core.Path.{sym, ap}
use Rattle.filer.specs.Answers.{verdict_of}
use Rattle.replies.specs.Told.{told}
use Rattle.verbs.specs.Texts.{verdict_text}
use Rattle.replies.specs.Texts.{worded}
use Rattle.replies.proofs.Replies.{tells_answer, told_as}
use Rattle.verbs.proofs.compare.put_verdict.Goals as goal

pub returns-in-Same : goal.returns-in-Same
unfolding worded verdict_text
returns-in-Same c =
    told_as _ (tells_answer c.put_same-length.ensures _ c.answered.ensures) (ap (λ v. told (verdict_text (verdict_of v))) (sym c.in-Same.is))

pub returns-in-Different : goal.returns-in-Different
unfolding worded verdict_text
returns-in-Different c =
    told_as _ (tells_answer c.put_different-length.ensures _ c.answered-in-Different.ensures) (ap (λ v. told (verdict_text (verdict_of v))) (sym c.in-Different.is))

pub returns-in-Refused : goal.returns-in-Refused
unfolding worded verdict_text
returns-in-Refused c =
    told_as _ c.refuse_as.ensures (ap (λ v. told (verdict_text (verdict_of v))) (sym c.in-Refused.is))
