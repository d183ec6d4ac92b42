-- With no numbers, what Settle reports and writes.
use mathlib.Core.Path.{ap, ◌∙◌}
use native.Mathlib.Omega.{arith}
use Rattle.replies.specs.Told.{told}
use Rattle.verbs.specs.Texts.{table_room}
use Rattle.verbs.specs.Calls.{settle_told}
use Rattle.verbs.proofs.Answered.{settle_answered, settle_refused}
use Rattle.verbs.proofs.Sizes.{settled_few}
use Rattle.replies.proofs.Numbers.{none_taken, none_other}
use Rattle.replies.proofs.Replies.{tells_nothing, told_as}
use Rattle.verbs.proofs.settle.settle.Goals as goal

pub returns-then-numbers-ne0 : goal.returns-then-numbers-ne0
unfolding settle_told
returns-then-numbers-ne0 c =
    told_as _ (tells_nothing c.args.out.now c.no_call.result c.no_call.ensures) (none_other _ c.args.numbers.now c.if-numbers-ne0.true)

pub put_settled-requires : goal.put_settled-requires
put_settled-requires c =
    record { most_text_in_bounds = omega (arith, c.requires); sheet_bound = settled_few c.args.sheet.now _ c.in-Ok.stage c.in-Ok.ensures.result_value }

pub returns-in-Ok : goal.returns-in-Ok
unfolding settle_told table_room
returns-in-Ok c =
    let none = c.if-numbers-ne0.false in
    told_as _ c.put_settled.ensures
    (ap told (settle_answered c.args.sheet.now c.settle_sheet.new.table c.settle_sheet.ensures.table_after c.in-Ok.stage c.in-Ok.ensures.result_value)
    ∙ none_taken _ c.args.numbers.now none)

pub returns-in-Err : goal.returns-in-Err
unfolding settle_told table_room
returns-in-Err c =
    let no_number = c.if-numbers-ne0.false in
    told_as _ c.refuse.ensures
    (ap told (settle_refused c.args.sheet.now _ _ c.in-Err.ensures.result_value)
    ∙ none_taken _ c.args.numbers.now no_number)
