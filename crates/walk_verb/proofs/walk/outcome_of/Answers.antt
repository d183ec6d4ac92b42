-- `outcome_of`: by the answer's case.
use mathlib.Core.Path.{sym, ap}
use Rattle.walker.specs.Answers.{answer_of}
use Rattle.replies.specs.Told.{end_of}
use Rattle.walk_verb.proofs.walk.outcome_of.Goals as goal

pub returns-in-Apart : goal.returns-in-Apart
unfolding end_of
returns-in-Apart c = ap (λ a. end_of (answer_of a)) (sym c.in-Apart.is)

pub returns-in-Together : goal.returns-in-Together
unfolding end_of
returns-in-Together c = ap (λ a. end_of (answer_of a)) (sym c.in-Together.is)

pub returns-in-Spent : goal.returns-in-Spent
unfolding end_of
returns-in-Spent c = ap (λ a. end_of (answer_of a)) (sym c.in-Spent.is)

pub returns-in-Refused : goal.returns-in-Refused
unfolding end_of
returns-in-Refused c = ap (λ a. end_of (answer_of a)) (sym c.in-Refused.is)
