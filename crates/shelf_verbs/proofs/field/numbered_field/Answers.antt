-- With two numbers, the field of this size and number.
use mathlib.Core.List.{List}
use mathlib.Core.Path.{sym, ap, ◌∙◌}
use Prim.Native.Nat.{ℕ, ◌≤◌}
use native.Mathlib.Omega.{arith}
use lib.ListN.{length, get_or, take}
use lib.Seq.{length-take-le}
use Rattle.model.specs.Sheet.{kind_count}
use Rattle.model.specs.Answer.{given, shelf_field_of}
use Rattle.sheet.specs.declared.reader.Card.{Card}
use Rattle.text.specs.Count.{counts_line}
use Rattle.replies.specs.Told.{told}
use Rattle.shelf_verbs.specs.Texts.{shelf_room, field_text}
use Rattle.shelf_verbs.specs.Calls.{field_told}
use Rattle.replies.proofs.Texts.{counts_answered, counts_refused}
use Rattle.shelf_verbs.proofs.Shelved.{shelved_few}
use Rattle.replies.proofs.Numbers.{two_taken, two_other}
use Rattle.replies.proofs.Replies.{tells_answer, tells_nothing, told_as}
use Rattle.shelf_verbs.proofs.field.numbered_field.Goals as goal
use Rattle.shelf_verbs.proofs.field.numbered_field.Goals.{After-of_header-card, After-widen-wide}

-- The sheet was accepted, so that the room suffices.
few : (c : After-of_header-card) → c.of_header-card.result.kinds ≤ length c.shelf_field.new.buffer
few c =
    omega (
      arith,
      ap (λ (x : Card). x.kinds) c.of_header-card.ensures,
      shelved_few c.args.sheet.now (get_or c.args.numbers.now 0 0) (get_or c.args.numbers.now 1 0) _ c.in-Ok.ensures.result_value,
    )

pub returns-then-numbers-ne2 : goal.returns-then-numbers-ne2
unfolding field_told
returns-then-numbers-ne2 c =
    told_as _ (tells_nothing c.args.out.now c.no_call.result c.no_call.ensures) (two_other _ c.args.numbers.now c.if-numbers-ne2.true)

pub slice_bounds-counts-end : goal.slice_bounds-counts-end
slice_bounds-counts-end c = few (goal.at.slice_bounds-counts-end c).After-of_header-card

pub slice_bounds-widen-end : goal.slice_bounds-widen-end
slice_bounds-widen-end c = sym (length-take-le _ _ (few (goal.at.slice_bounds-widen-end c).After-of_header-card))

pub widen-wide-requires : goal.widen-wide-requires
widen-wide-requires c = omega (arith, few (goal.at.widen-wide-requires c).After-of_header-card, (sym (length-take-le _ _ (few (goal.at.widen-wide-requires c).After-of_header-card))))

-- The array of the counts as numbers of 64 bits has room for the card's kinds.
wide_few : (c : After-widen-wide) → c.of_header-card.result.kinds ≤ length c.widen-wide.result
wide_few c =
    omega (
      arith,
      ap (λ (x : Card). x.kinds) c.of_header-card.ensures,
      shelved_few c.args.sheet.now (get_or c.args.numbers.now 0 0) (get_or c.args.numbers.now 1 0) _ c.in-Ok.ensures.result_value,
    )

pub slice_bounds-wide-end : goal.slice_bounds-wide-end
slice_bounds-wide-end c = wide_few (goal.at.slice_bounds-wide-end c).After-widen-wide

pub slice_bounds-put_counts_line-end : goal.slice_bounds-put_counts_line-end
slice_bounds-put_counts_line-end c = sym (length-take-le _ _ (wide_few (goal.at.slice_bounds-put_counts_line-end c).After-widen-wide))

pub put_counts_line-length-requires : goal.put_counts_line-length-requires
put_counts_line-length-requires c =
    omega (arith, c.requires, few (goal.at.put_counts_line-length-requires c).After-of_header-card, (sym (length-take-le _ _ (wide_few (goal.at.put_counts_line-length-requires c).After-widen-wide))))

pub returns-in-Ok : goal.returns-in-Ok
unfolding field_told field_text shelf_room
returns-in-Ok c =
    let counts = c.shelf_field.new.buffer in
    let wide = c.widen-wide.result in
    let n = c.of_header-card.result.kinds in
    told_as _ (tells_answer c.put_counts_line-length.ensures _ c.answered.ensures)
    (ap (λ (l : List ℕ). told (given (counts_line l))) (ap (λ (k : ℕ). take k wide) (sym (length-take-le n counts (few (goal.at.returns-in-Ok c).After-of_header-card))) ∙ c.widen-wide.ensures)
    ∙ ap (λ (x : Card). told (given (counts_line (take x.kinds counts)))) c.of_header-card.ensures
    ∙ ap told (counts_answered (kind_count c.args.sheet.now) (shelf_field_of c.args.sheet.now (get_or c.args.numbers.now 0 0) (get_or c.args.numbers.now 1 0) shelf_room) c.shelf_field.ensures.buffer_after c.in-Ok.ensures.result_value)
    ∙ two_taken _ c.args.numbers.now c.if-numbers-ne2.false)

pub returns-in-Err : goal.returns-in-Err
unfolding field_told field_text shelf_room
returns-in-Err c =
    told_as _ c.refuse.ensures
    (ap told (counts_refused (kind_count c.args.sheet.now) (shelf_field_of c.args.sheet.now (get_or c.args.numbers.now 0 0) (get_or c.args.numbers.now 1 0) shelf_room) _ _ c.in-Err.ensures.result_value)
    ∙ two_taken _ c.args.numbers.now c.if-numbers-ne2.false)
