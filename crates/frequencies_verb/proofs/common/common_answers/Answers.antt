-- With two numbers, how many of the fields of this size get each answer with this field.
use mathlib.Core.List.{List}
use mathlib.Core.Path.{sym, ap, ◌∙◌}
use Prim.Native.Nat.{ℕ, ◌+◌, ◌≤◌}
use native.Mathlib.Omega.{arith}
use lib.ListN.{length, get_or, take}
use lib.Seq.{length-take-le}
use Rattle.model.specs.Sheet.{kind_count}
use Rattle.model.specs.Answer.{given, frequencies_of}
use Rattle.sheet.specs.declared.reader.Card.{Card}
use Rattle.replies.specs.Told.{told}
use Rattle.frequencies_verb.specs.Texts.{frequencies_room, common_line, common_text}
use Rattle.frequencies_verb.specs.Calls.{common_told}
use Rattle.replies.proofs.Texts.{lent_answered, lent_refused}
use Rattle.frequencies_verb.proofs.Counted.{common_few}
use Rattle.replies.proofs.Numbers.{two_taken, two_other}
use Rattle.replies.proofs.Replies.{tells_answer, tells_nothing, told_as}
use Rattle.frequencies_verb.proofs.common.common_answers.Goals as goal
use Rattle.frequencies_verb.proofs.common.common_answers.Goals.{After-of_header-card, After-widen-wide}

-- The sheet was accepted, so that the room suffices.
few : (c : After-of_header-card) → let frequencies = c.frequencies in c.of_header-card.result.kinds + 2 ≤ length frequencies.new.buffer
few c =
    omega (
      arith,
      ap (λ (x : Card). x.kinds) c.of_header-card.ensures,
      common_few c.args.sheet.now (get_or c.args.numbers.now 0 0) (get_or c.args.numbers.now 1 0) _ c.in-Ok.ensures.result_value,
    )

pub returns-then-numbers-ne2 : goal.returns-then-numbers-ne2
unfolding common_told
returns-then-numbers-ne2 c =
    told_as _ (tells_nothing c.args.out.now c.no_call.result c.no_call.ensures) (two_other _ c.args.numbers.now c.if-numbers-ne2.true)

pub overflow_add-places : goal.overflow_add-places
overflow_add-places c = omega (arith, few (goal.at.overflow_add-places c).After-of_header-card)

pub slice_bounds-counts-end : goal.slice_bounds-counts-end
slice_bounds-counts-end c = few (goal.at.slice_bounds-counts-end c).After-of_header-card

pub slice_bounds-widen-end : goal.slice_bounds-widen-end
slice_bounds-widen-end c = sym (length-take-le _ _ (few (goal.at.slice_bounds-widen-end c).After-of_header-card))

pub widen-wide-requires : goal.widen-wide-requires
widen-wide-requires c = omega (arith, few (goal.at.widen-wide-requires c).After-of_header-card, (sym (length-take-le _ _ (few (goal.at.widen-wide-requires c).After-of_header-card))))

-- The array of the counts as numbers of 64 bits has room for all of them.
wide_few : (c : After-widen-wide) → c.of_header-card.result.kinds + 2 ≤ length c.widen-wide.result
wide_few c = omega (arith, few (goal.at.After-widen-wide c).After-of_header-card)

pub slice_bounds-wide-end : goal.slice_bounds-wide-end
slice_bounds-wide-end c = wide_few (goal.at.slice_bounds-wide-end c).After-widen-wide

pub slice_bounds-put_common-end : goal.slice_bounds-put_common-end
slice_bounds-put_common-end c = sym (length-take-le _ _ (wide_few (goal.at.slice_bounds-put_common-end c).After-widen-wide))

pub put_common-length-requires : goal.put_common-length-requires
put_common-length-requires c =
    (omega (arith, (sym (length-take-le _ _ (wide_few (goal.at.put_common-length-requires c).After-widen-wide)))), omega (arith, c.requires, few (goal.at.put_common-length-requires c).After-of_header-card, (sym (length-take-le _ _ (wide_few (goal.at.put_common-length-requires c).After-widen-wide)))))

pub returns-in-Ok : goal.returns-in-Ok
unfolding common_told common_text frequencies_room
returns-in-Ok c =
    let counts = c.frequencies.new.buffer in
    let wide = c.widen-wide.result in
    let places = c.of_header-card.result.kinds + 2 in
    let i = get_or c.args.numbers.now 0 0 in
    let t = get_or c.args.numbers.now 1 0 in
    told_as _ (tells_answer c.put_common-length.ensures _ c.answered.ensures)
    (ap (λ (l : List ℕ). told (given (common_line l))) (ap (λ (k : ℕ). take k wide) (sym (length-take-le places counts (few (goal.at.returns-in-Ok c).After-of_header-card))) ∙ c.widen-wide.ensures)
    ∙ ap (λ (x : Card). told (given (common_line (take (x.kinds + 2) counts)))) c.of_header-card.ensures
    ∙ ap told (lent_answered (λ _ l. common_line l) (kind_count c.args.sheet.now + 2) (frequencies_of c.args.sheet.now i t frequencies_room) c.frequencies.ensures.buffer_after tt c.in-Ok.ensures.result_value)
    ∙ two_taken _ c.args.numbers.now c.if-numbers-ne2.false)

pub returns-in-Err : goal.returns-in-Err
unfolding common_told common_text frequencies_room
returns-in-Err c =
    let i = get_or c.args.numbers.now 0 0 in
    let t = get_or c.args.numbers.now 1 0 in
    told_as _ c.refuse.ensures
    (ap told (lent_refused (λ _ l. common_line l) (kind_count c.args.sheet.now + 2) (frequencies_of c.args.sheet.now i t frequencies_room) _ _ c.in-Err.ensures.result_value)
    ∙ two_taken _ c.args.numbers.now c.if-numbers-ne2.false)
