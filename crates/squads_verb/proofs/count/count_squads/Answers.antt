-- `count_squads`: with two numbers, how often one field goes into the other.
use mathlib.Core.Path.{sym, ap, ◌∙◌}
use Prim.Native.Nat.{◌≤◌}
use native.Mathlib.Omega.{arith}
use lib.ListN.{length, get_or, take}
use lib.Seq.{length-take-le}
use Rattle.model.specs.Sheet.{kind_count}
use Rattle.model.specs.Answer.{given, squads_of}
use Rattle.sheet.specs.declared.reader.Card.{Card}
use Rattle.replies.specs.Told.{told}
use Rattle.replies.proofs.Texts.{lent_answered, lent_refused}
use Rattle.replies.proofs.Numbers.{two_taken, two_other}
use Rattle.replies.proofs.Replies.{tells_answer, tells_nothing, told_as}
use Rattle.squads_verb.specs.Texts.{remainder_room, squads_line, squads_text}
use Rattle.squads_verb.specs.Calls.{squads_told}
use Rattle.squads_verb.proofs.Counted.{squads_few}
use Rattle.squads_verb.proofs.count.count_squads.Goals as goal
use Rattle.squads_verb.proofs.count.count_squads.Goals.{After-of_header-card}

-- The sheet was accepted, so that the room suffices.
few : (c : After-of_header-card) → let squads = c.squads in c.of_header-card.result.kinds ≤ length squads.new.remainder
few c =
    omega (
      arith,
      ap (λ (x : Card). x.kinds) c.of_header-card.ensures,
      squads_few c.args.sheet.now (get_or c.args.numbers.now 0 0) (get_or c.args.numbers.now 1 0) _ _ c.in-Ok.ensures.result_value,
    )

pub returns-then-numbers-ne2 : goal.returns-then-numbers-ne2
unfolding squads_told
returns-then-numbers-ne2 c =
    told_as _ (tells_nothing c.args.out.now c.no_call.result c.no_call.ensures) (two_other _ c.args.numbers.now c.if-numbers-ne2.true)

pub slice_bounds-remainder-end : goal.slice_bounds-remainder-end
slice_bounds-remainder-end c = few (goal.at.slice_bounds-remainder-end c).After-of_header-card

pub slice_bounds-put_squads-end : goal.slice_bounds-put_squads-end
slice_bounds-put_squads-end c = sym (length-take-le _ _ (few (goal.at.slice_bounds-put_squads-end c).After-of_header-card))

pub put_squads-length-requires : goal.put_squads-length-requires
put_squads-length-requires c =
    omega (arith, c.requires, few (goal.at.put_squads-length-requires c).After-of_header-card, (sym (length-take-le _ _ (few (goal.at.put_squads-length-requires c).After-of_header-card))))

pub returns-in-Ok : goal.returns-in-Ok
unfolding squads_told squads_text remainder_room
returns-in-Ok c =
    let squads = c.squads in
    let remainder = squads.new.remainder in
    let count = c.in-Ok.count in
    let i = get_or c.args.numbers.now 0 0 in
    let j = get_or c.args.numbers.now 1 0 in
    told_as _ (tells_answer c.put_squads-length.ensures _ c.answered.ensures)
    (ap (λ (x : Card). told (given (squads_line count (take x.kinds remainder)))) c.of_header-card.ensures
    ∙ ap told (lent_answered squads_line (kind_count c.args.sheet.now) (squads_of c.args.sheet.now i j remainder_room) squads.ensures.remainder_after count c.in-Ok.ensures.result_value)
    ∙ two_taken _ c.args.numbers.now c.if-numbers-ne2.false)

pub returns-in-Err : goal.returns-in-Err
unfolding squads_told squads_text remainder_room
returns-in-Err c =
    let i = get_or c.args.numbers.now 0 0 in
    let j = get_or c.args.numbers.now 1 0 in
    told_as _ c.refuse.ensures
    (ap told (lent_refused squads_line (kind_count c.args.sheet.now) (squads_of c.args.sheet.now i j remainder_room) _ _ c.in-Err.ensures.result_value)
    ∙ two_taken _ c.args.numbers.now c.if-numbers-ne2.false)
