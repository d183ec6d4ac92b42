-- `tell_verdict`: with two numbers, the verdict of the sense on these fields.
use mathlib.Core.Path.{ap, ◌∙◌}
use Rattle.replies.specs.Told.{told}
use Rattle.verbs.specs.Texts.{verdict_text, compare_text_in}
use Rattle.verbs.specs.Calls.{compare_told_in}
use Rattle.replies.proofs.Numbers.{two_taken, two_other}
use Rattle.replies.proofs.Replies.{tells_nothing, told_as}
use Rattle.verbs.proofs.compare.tell_verdict.Goals as goal

pub returns-then-numbers-ne2 : goal.returns-then-numbers-ne2
unfolding compare_told_in
returns-then-numbers-ne2 c =
    told_as _ (tells_nothing c.args.out.now c.no_call.result c.no_call.ensures) (two_other _ c.args.numbers.now c.if-numbers-ne2.true)

pub returns : goal.returns
unfolding compare_told_in compare_text_in
returns c =
    let if1 = c.if-numbers-ne2 in
    let compare-in = c.compare_in-verdict in
    told_as _ c.put_verdict.ensures (ap (λ a. told (verdict_text a)) compare-in.ensures ∙ two_taken _ c.args.numbers.now if1.false)
