-- Each line by the answer's case.
use native.Mathlib.Omega.{arith}
use mathlib.Core.Path.{sym, ap, ◌∙◌}
use Rattle.model.specs.Page.{bytes}
use Rattle.text.proofs.Append.{then, reads_as}
use Rattle.walker.specs.Answers.{answer_of, walked_of}
use Rattle.walker.specs.declared.entry.Answer.{Answer}
use Rattle.walk_text.specs.Line.{most_walk, answer_line, walk_line}
use Rattle.walk_text.proofs.Texts.{apart_is, together_is, spent_is, refused_is}
use Rattle.walk_text.proofs.line.put_walk.Goals as goal

pub returns-in-Apart : goal.returns-in-Apart
unfolding bytes
returns-in-Apart c =
    let walked = c.args.walked in
    reads_as most_walk (walk_line (walked_of walked)) (then c.put_labelled-next.ensures c.put_drawn.ensures) (omega arith)
    (apart_is _ walked.drawn ∙ ap (λ (x : Answer). answer_line (answer_of x) walked.drawn) (sym c.in-Apart.is))

pub returns-in-Together : goal.returns-in-Together
unfolding bytes
returns-in-Together c =
    let walked = c.args.walked in
    reads_as most_walk (walk_line (walked_of walked)) (then c.put_bytes-next.ensures c.put_drawn-in-Together.ensures) (omega arith)
    (together_is walked.drawn ∙ ap (λ (x : Answer). answer_line (answer_of x) walked.drawn) (sym c.in-Together.is))

pub returns-in-Spent : goal.returns-in-Spent
unfolding bytes
returns-in-Spent c =
    let walked = c.args.walked in
    reads_as most_walk (walk_line (walked_of walked)) (then c.put_bytes-next-in-Spent.ensures c.put_drawn-in-Spent.ensures) (omega arith)
    (spent_is walked.drawn ∙ ap (λ (x : Answer). answer_line (answer_of x) walked.drawn) (sym c.in-Spent.is))

pub returns-in-Refused : goal.returns-in-Refused
unfolding bytes
returns-in-Refused c =
    let walked = c.args.walked in
    reads_as most_walk (walk_line (walked_of walked)) c.put_refused.ensures (omega arith)
    (refused_is _ _ walked.drawn ∙ ap (λ (x : Answer). answer_line (answer_of x) walked.drawn) (sym c.in-Refused.is))
