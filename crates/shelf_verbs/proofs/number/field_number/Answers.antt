-- With one number, the shelf number of this field.
use mathlib.Core.Path.{ap, ◌∙◌}
use Rattle.replies.specs.Told.{told}
use Rattle.shelf_verbs.specs.Texts.{shelved_text, number_text}
use Rattle.replies.specs.Texts.{worded}
use Rattle.shelf_verbs.specs.Calls.{number_told}
use Rattle.replies.proofs.Numbers.{one_taken, one_other}
use Rattle.replies.proofs.Replies.{tells_answer, tells_nothing, told_as}
use Rattle.shelf_verbs.proofs.number.field_number.Goals as goal

pub returns-then-numbers-ne1 : goal.returns-then-numbers-ne1
unfolding number_told
returns-then-numbers-ne1 c =
    told_as _ (tells_nothing c.args.out.now c.no_call.result c.no_call.ensures) (one_other _ c.args.numbers.now c.if-numbers-ne1.true)

pub returns-in-Ok : goal.returns-in-Ok
unfolding number_told number_text shelved_text worded
returns-in-Ok c =
    let if1 = c.if-numbers-ne1 in
    told_as _ (tells_answer c.put_shelved-length.ensures _ c.answered.ensures)
    (ap (λ a. told (shelved_text a)) c.in-Ok.ensures ∙ one_taken _ c.args.numbers.now if1.false)

pub returns-in-Err : goal.returns-in-Err
unfolding number_told number_text shelved_text worded
returns-in-Err c =
    let if1 = c.if-numbers-ne1 in
    told_as _ c.refuse.ensures
    (ap (λ a. told (shelved_text a)) c.in-Err.ensures ∙ one_taken _ c.args.numbers.now if1.false)
