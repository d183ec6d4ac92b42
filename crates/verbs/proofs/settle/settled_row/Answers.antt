-- With one number, the row that Row hands out of what Settle wrote.
use mathlib.Core.Path.{ap, ◌∙◌}
use lib.ListN.{get_or}
use Rattle.model.specs.Answer.{row_check_of}
use Rattle.sheet.specs.declared.reader.Card.{Card}
use Rattle.replies.specs.Told.{told}
use Rattle.verbs.specs.Texts.{table_room, row_in}
use Rattle.verbs.specs.Calls.{row_told}
use Rattle.verbs.proofs.Answered.{row_answered, row_refused}
use Rattle.replies.proofs.Numbers.{one_taken, one_other}
use Rattle.replies.proofs.Replies.{tells_nothing, told_as}
use Rattle.verbs.proofs.settle.settled_row.Goals as goal

pub returns-then-numbers-ne1 : goal.returns-then-numbers-ne1
unfolding row_told
returns-then-numbers-ne1 c =
    told_as _ (tells_nothing c.args.out.now c.no_call.result c.no_call.ensures) (one_other _ c.args.numbers.now c.if-numbers-ne1.true)

pub returns-in-Ok : goal.returns-in-Ok
unfolding row_told table_room
returns-in-Ok c =
    let table = c.settle_sheet.new.table in
    let kind = get_or c.args.numbers.now 0 0 in
    told_as _ c.put_row_of.ensures
    (ap (λ (x : Card). told (row_in x.kinds kind table (row_check_of x.kinds kind table))) c.of_header-card.ensures
    ∙ ap told (row_answered c.args.sheet.now table c.settle_sheet.ensures.table_after kind _ c.in-Ok.ensures.result_value)
    ∙ one_taken _ c.args.numbers.now c.if-numbers-ne1.false)

pub returns-in-Err : goal.returns-in-Err
unfolding row_told table_room
returns-in-Err c =
    told_as _ c.refuse.ensures
    (ap told (row_refused c.args.sheet.now (get_or c.args.numbers.now 0 0) _ _ c.in-Err.ensures.result_value)
    ∙ one_taken _ c.args.numbers.now c.if-numbers-ne1.false)
