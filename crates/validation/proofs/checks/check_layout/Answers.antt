-- Each return gives what the tests on the way leave of the checks.
use mathlib.Core.List.{List}
use mathlib.Core.Path.{◌≡◌, sym, ◌∙◌}
use Prim.Native.Nat.{ℕ, ◌≤◌}
use lib.ListN.{length, drop}
use Rattle.model.specs.Limits.{most_kinds, most_lines, most_fields}
use Rattle.model.specs.Sheet.{u32_at, lines_offset, fields_offset, total_of}
use Rattle.model.specs.Refusal.{first_of, header_checks}
use Rattle.theory.proofs.Sheets.{clear_nil}
use Rattle.sheet.specs.Reader.{layout_checks}
use Rattle.sheet.proofs.Laws.{numbers_limits}
use Rattle.sheet.proofs.Reading.{fields_offset_read, total_read}
use Rattle.validation.proofs.Checking.{differ_stops, differ_passes}
use Rattle.validation.proofs.checks.check_layout.Goals as goal
use Rattle.validation.proofs.checks.check_layout.Goals.{After-field_start-total, Else-u32_at-fields, Else-u32_at-ne-HEADER, Else-u32_at-total, Start}

-- The card's numbers are within their limits.
within : (c : Start) → (c.args.card.kinds ≤ most_kinds) × (c.args.card.lines ≤ most_lines) × (c.args.card.fields ≤ most_fields)
within c = let n = numbers_limits c.args.sheet.now c.requires.sheet_value in rw c.requires.card_value (n.kinds.1, n.lines, n.fields)

pub line_start-fields-requires : goal.line_start-fields-requires
line_start-fields-requires c = let w = within (goal.at.line_start-fields-requires c).Start in (w.0, w.1)

pub field_start-total-requires : goal.field_start-total-requires
field_start-total-requires c = within (goal.at.field_start-total-requires c).Start

-- The first k of the checks do not apply.
abbrev After : ℕ → List ℕ → Type 0
After k s = first_of (layout_checks s) ≡ first_of (drop k (layout_checks s))

-- The numbers compared are the layout's.
fields_is : (c : After-field_start-total) → c.line_start-fields.result ≡ fields_offset c.args.sheet.now
fields_is c = fields_offset_read _ _ c.requires.card_value _ c.line_start-fields.ensures.0

total_is : (c : After-field_start-total) → c.field_start-total.result ≡ total_of c.args.sheet.now
total_is c = total_read _ _ c.requires.card_value _ c.field_start-total.ensures.0

after_lines : (c : Else-u32_at-ne-HEADER) → After 1 c.args.sheet.now
unfolding header_checks
after_lines c =
    differ_passes 6 0 _ (u32_at c.args.sheet.now 8) lines_offset (sym c.u32_at.ensures.0 ∙ c.if-u32_at-ne-HEADER.false)

after_fields : (c : Else-u32_at-fields) → After 2 c.args.sheet.now
unfolding header_checks
after_fields c =
    let after_lines : After 1 c.args.sheet.now = differ_passes 6 0 _ (u32_at c.args.sheet.now 8) lines_offset (sym c.u32_at.ensures.0 ∙ c.if-u32_at-ne-HEADER.false) in
    let fields_is : c.line_start-fields.result ≡ fields_offset c.args.sheet.now = fields_offset_read _ _ c.requires.card_value _ c.line_start-fields.ensures.0 in
    after_lines
    ∙ differ_passes 6 1 _ (u32_at c.args.sheet.now 12) (fields_offset c.args.sheet.now) (sym c.u32_at-2.ensures.0 ∙ c.if-u32_at-fields.false ∙ fields_is)

after_total : (c : Else-u32_at-total) → After 3 c.args.sheet.now
unfolding header_checks
after_total c =
    let after_fields : After 2 c.args.sheet.now = let after_lines : After 1 c.args.sheet.now = differ_passes 6 0 _ (u32_at c.args.sheet.now 8) lines_offset (sym c.u32_at.ensures.0 ∙ c.if-u32_at-ne-HEADER.false) in let fields_is : c.line_start-fields.result ≡ fields_offset c.args.sheet.now = fields_offset_read _ _ c.requires.card_value _ c.line_start-fields.ensures.0 in after_lines ∙ differ_passes 6 1 _ (u32_at c.args.sheet.now 12) (fields_offset c.args.sheet.now) (sym c.u32_at-2.ensures.0 ∙ c.if-u32_at-fields.false ∙ fields_is) in
    let total_is : c.field_start-total.result ≡ total_of c.args.sheet.now = total_read _ _ c.requires.card_value _ c.field_start-total.ensures.0 in
    after_fields
    ∙ differ_passes 6 2 _ (u32_at c.args.sheet.now 16) (total_of c.args.sheet.now) (sym c.u32_at-3.ensures.0 ∙ c.if-u32_at-total.false ∙ total_is)

pub returns-then-u32_at-ne-HEADER : goal.returns-then-u32_at-ne-HEADER
unfolding header_checks
returns-then-u32_at-ne-HEADER c =
    sym (differ_stops 6 0 _ (u32_at c.args.sheet.now 8) lines_offset (λ e. c.if-u32_at-ne-HEADER.true (c.u32_at.ensures.0 ∙ e)))

pub returns-then-u32_at-fields : goal.returns-then-u32_at-fields
unfolding header_checks
returns-then-u32_at-fields c =
    sym
    (after_lines (goal.at.returns-then-u32_at-fields c).Else-u32_at-ne-HEADER
    ∙ differ_stops 6 1 _ (u32_at c.args.sheet.now 12) (fields_offset c.args.sheet.now)
    (λ e. c.if-u32_at-fields.true (c.u32_at-2.ensures.0 ∙ e ∙ sym (fields_is (goal.at.returns-then-u32_at-fields c).After-field_start-total))))

pub returns-then-u32_at-total : goal.returns-then-u32_at-total
unfolding header_checks
returns-then-u32_at-total c =
    sym
    (after_fields (goal.at.returns-then-u32_at-total c).Else-u32_at-fields
    ∙ differ_stops 6 2 _ (u32_at c.args.sheet.now 16) (total_of c.args.sheet.now)
    (λ e. c.if-u32_at-total.true (c.u32_at-3.ensures.0 ∙ e ∙ sym (total_is (goal.at.returns-then-u32_at-total c).After-field_start-total))))

pub returns-then-sheet-total : goal.returns-then-sheet-total
unfolding header_checks
returns-then-sheet-total c =
    sym
    (after_total (goal.at.returns-then-sheet-total c).Else-u32_at-total
    ∙ differ_stops 6 3 _ (length c.args.sheet.now) (total_of c.args.sheet.now) (λ e. c.if-sheet-total.true (e ∙ sym (total_is (goal.at.returns-then-sheet-total c).After-field_start-total))))

pub returns : goal.returns
unfolding header_checks
returns c =
    sym
    (after_total (goal.at.returns c).Else-u32_at-total ∙ differ_passes 6 3 _ (length c.args.sheet.now) (total_of c.args.sheet.now) (c.if-sheet-total.false ∙ total_is (goal.at.returns c).After-field_start-total) ∙ clear_nil)
