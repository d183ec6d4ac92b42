-- With one number, the prime form of the sense of this field.
use mathlib.Core.Path.{sym, ap, ◌∙◌}
use Prim.Native.Nat.{◌≤◌}
use native.Mathlib.Omega.{arith}
use lib.ListN.{length, get_or, take}
use lib.Seq.{length-take-le}
use Rattle.model.specs.Sheet.{kind_count}
use Rattle.model.specs.Answer.{given, forming_in}
use Rattle.sheet.specs.declared.reader.Card.{Card}
use Rattle.tables.specs.Senses.{sense_of}
use Rattle.text.specs.Count.{counts_line}
use Rattle.replies.specs.Told.{told}
use Rattle.verbs.specs.Texts.{form_room, form_text_in}
use Rattle.verbs.specs.Calls.{form_told_in}
use Rattle.replies.proofs.Texts.{counts_answered, counts_refused}
use Rattle.verbs.proofs.Sizes.{formed_few}
use Rattle.replies.proofs.Numbers.{one_taken, one_other}
use Rattle.replies.proofs.Replies.{tells_answer, tells_nothing, told_as}
use Rattle.verbs.proofs.form.tell_form.Goals as goal
use Rattle.verbs.proofs.form.tell_form.Goals.{After-of_header-card}

-- The sheet was accepted, so that the room suffices.
few : (c : After-of_header-card) → c.of_header-card.result.kinds ≤ length c.form_in.new.buffer
few c =
    omega (
      arith,
      ap (λ (x : Card). x.kinds) c.of_header-card.ensures,
      formed_few (sense_of c.args.sense) c.args.sheet.now (get_or c.args.numbers.now 0 0) _ c.in-Ok.ensures.result_value,
    )

pub returns-then-numbers-ne1 : goal.returns-then-numbers-ne1
unfolding form_told_in
returns-then-numbers-ne1 c =
    told_as _ (tells_nothing c.args.out.now c.no_call.result c.no_call.ensures) (one_other _ c.args.numbers.now c.if-numbers-ne1.true)

pub slice_bounds-form-end : goal.slice_bounds-form-end
slice_bounds-form-end c = few (goal.at.slice_bounds-form-end c).After-of_header-card

pub slice_bounds-put_counts_line-end : goal.slice_bounds-put_counts_line-end
slice_bounds-put_counts_line-end c = sym (length-take-le _ _ (few (goal.at.slice_bounds-put_counts_line-end c).After-of_header-card))

pub put_counts_line-length-requires : goal.put_counts_line-length-requires
put_counts_line-length-requires c =
    let form_in = c.form_in in
    omega (arith, c.requires, few (goal.at.put_counts_line-length-requires c).After-of_header-card, length-take-le c.of_header-card.result.kinds form_in.new.buffer (few (goal.at.put_counts_line-length-requires c).After-of_header-card))

pub returns-in-Ok : goal.returns-in-Ok
unfolding form_told_in form_text_in form_room
returns-in-Ok c =
    let form = c.form_in.new.buffer in
    let field = get_or c.args.numbers.now 0 0 in
    told_as _ (tells_answer c.put_counts_line-length.ensures _ c.answered.ensures)
    (ap (λ (x : Card). told (given (counts_line (take x.kinds form)))) c.of_header-card.ensures
    ∙ ap told (counts_answered (kind_count c.args.sheet.now) (forming_in (sense_of c.args.sense) c.args.sheet.now field form_room) c.form_in.ensures.buffer_after c.in-Ok.ensures.result_value)
    ∙ one_taken _ c.args.numbers.now c.if-numbers-ne1.false)

pub returns-in-Err : goal.returns-in-Err
unfolding form_told_in form_text_in form_room
returns-in-Err c =
    let field = get_or c.args.numbers.now 0 0 in
    told_as _ c.refuse.ensures
    (ap told (counts_refused (kind_count c.args.sheet.now) (forming_in (sense_of c.args.sense) c.args.sheet.now field form_room) _ _ c.in-Err.ensures.result_value)
    ∙ one_taken _ c.args.numbers.now c.if-numbers-ne1.false)
