-- What lies past a bound is not played; the fields read are those of the sheet, with room for 200 rounds, and are looked at as at the start.
use native.Mathlib.Omega.{arith}
use mathlib.Core.Path.{◌≡◌, ◌∙◌}
use Prim.Native.Nat.{◌≤◌, ◌<◌}
use Rattle.model.specs.Sheet.{kind_count, field_count, card_of, field_of}
use Rattle.second_reader.proofs.Counts.{fits_fewer}
use Rattle.test_player.specs.Played.{sense_of, shares_total}
use Rattle.test_player.proofs.Rounds.{kinds_bound, first_bound, second_bound, fields_parted, fields_tried}
use Rattle.test_player.proofs.game.parting.Goals as goal
use Rattle.test_player.proofs.game.parting.Goals.{After-shares_total}

pub returns-then-kinds-gt32 : goal.returns-then-kinds-gt32
returns-then-kinds-gt32 c = kinds_bound _ _ _ _ _ _ (omega (arith, c.kinds.ensures, c.if-kinds-gt32.true))

pub returns-then-count-first : goal.returns-then-count-first
returns-then-count-first c = first_bound _ _ _ _ _ _ (omega (arith, c.kinds.ensures, c.if-kinds-gt32.false)) (omega (arith, c.fields-count.ensures, c.if-count-first.true))

pub returns-then-count-second : goal.returns-then-count-second
returns-then-count-second c =
    second_bound _ _ _ _ _ _ (omega (arith, c.kinds.ensures, c.if-kinds-gt32.false)) (omega (arith, c.fields-count.ensures, c.if-count-first.false)) (omega (arith, c.fields-count.ensures, c.if-count-second.true))

pub shares_total-requires : goal.shares_total-requires
shares_total-requires c =
    record { sheet_bound = omega (arith, c.kinds.ensures, c.if-kinds-gt32.false); fits = (fits_fewer 0 (omega arith) c.field-first_field.ensures.1, fits_fewer 0 (omega arith) c.field-second_field.ensures.1) }

-- The kinds are few, and the sheet has both fields.
few : (c : After-shares_total) → kind_count c.args.sheet.now ≤ 32
few c = omega (arith, c.kinds.ensures, c.if-kinds-gt32.false)

has_first : (c : After-shares_total) → c.args.first < field_count c.args.sheet.now
has_first c = omega (arith, c.fields-count.ensures, c.if-count-first.false)

has_second : (c : After-shares_total) → c.args.second < field_count c.args.sheet.now
has_second c = omega (arith, c.fields-count.ensures, c.if-count-second.false)

-- What is looked at at the start is what the fields of the sheet come to.
looked : (c : After-shares_total)
    → c.shares_total.result ≡ shares_total (sense_of c.args.totals) (card_of c.args.sheet.now) (field_of c.args.sheet.now c.args.first) (field_of c.args.sheet.now c.args.second)
looked c = rw (← c.field-first_field.ensures.0, ← c.field-second_field.ensures.0) c.shares_total.ensures

pub returns-then-not-shares_total : goal.returns-then-not-shares_total
returns-then-not-shares_total c =
    let read = (goal.at.returns-then-not-shares_total c).After-shares_total in
    fields_parted _ _ _ _ _ _ (few read) (has_first read) (has_second read) (looked read) c.if-not-shares_total.true

pub returns : goal.returns
returns c =
    let read = (goal.at.returns c).After-shares_total in
    c.try_rounds.ensures
    ∙ rw (c.field-first_field.ensures.0, c.field-second_field.ensures.0)
    (fields_tried _ _ _ _ _ _ (few read) (has_first read) (has_second read) (looked read) c.if-not-shares_total.false)
