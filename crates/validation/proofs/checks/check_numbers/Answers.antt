-- Each return gives what the tests on the way leave of the checks.
use native.Mathlib.Omega.{arith}
use mathlib.Core.List.{List}
use mathlib.Core.Path.{◌≡◌, sym, ◌∙◌, ap}
use Prim.Native.Nat.{ℕ}
use lib.ListN.{drop}
use Rattle.model.specs.Limits.{most_kinds, most_codes, most_lines, most_fields}
use Rattle.model.specs.Sheet.{kind_count, code_count, line_count, field_count}
use Rattle.model.specs.Refusal.{outside, first_of, header_checks}
use Rattle.theory.proofs.Sheets.{clear_nil}
use Rattle.sheet.specs.declared.reader.Card.{Card}
use Rattle.sheet.specs.Reader.{number_checks}
use Rattle.validation.proofs.Checking.{refuses, passes, test_stops, test_passes, less_stops, less_passes}
use Rattle.validation.proofs.checks.check_numbers.Goals as goal
use Rattle.validation.proofs.checks.check_numbers.Goals.{After-outside, After-outside-2, Else-lines-gt-LINES, Else-outside, Else-outside-2, Else-sheet-lt-HEADER}

-- The tests of the code are those of the checks.
kinds_test : (c : After-outside) → outside 1 most_kinds (kind_count c.args.sheet.now) ≡ c.outside.result
kinds_test c = sym (c.outside.ensures ∙ ap (λ (d : Card). outside 1 most_kinds d.kinds) c.of_header-card.ensures)

codes_test : (c : After-outside-2) → outside 1 most_codes (code_count c.args.sheet.now) ≡ c.outside-2.result
codes_test c = sym (c.outside-2.ensures ∙ ap (λ (d : Card). outside 1 most_codes d.codes) c.of_header-card.ensures)

-- The first k of the checks do not apply.
abbrev After : ℕ → List ℕ → Type 0
After k s = first_of (number_checks s) ≡ first_of (drop k (number_checks s))

after_length : (c : Else-sheet-lt-HEADER) → After 1 c.args.sheet.now
unfolding header_checks
after_length c = less_passes 1 0 _ _ _ c.if-sheet-lt-HEADER.false

after_kinds : (c : Else-outside) → After 2 c.args.sheet.now
unfolding header_checks
after_kinds c =
    let after_length : After 1 c.args.sheet.now = less_passes 1 0 _ _ _ c.if-sheet-lt-HEADER.false in
    let kinds_test : outside 1 most_kinds (kind_count c.args.sheet.now) ≡ c.outside.result = sym (c.outside.ensures ∙ ap (λ (d : Card). outside 1 most_kinds d.kinds) c.of_header-card.ensures) in
    after_length ∙ test_passes 2 0 _ _ (kinds_test ∙ c.if-outside.false)

after_codes : (c : Else-outside-2) → After 3 c.args.sheet.now
unfolding header_checks
after_codes c =
    let after_kinds : After 2 c.args.sheet.now = let after_length : After 1 c.args.sheet.now = less_passes 1 0 _ _ _ c.if-sheet-lt-HEADER.false in let kinds_test : outside 1 most_kinds (kind_count c.args.sheet.now) ≡ c.outside.result = sym (c.outside.ensures ∙ ap (λ (d : Card). outside 1 most_kinds d.kinds) c.of_header-card.ensures) in after_length ∙ test_passes 2 0 _ _ (kinds_test ∙ c.if-outside.false) in
    let codes_test : outside 1 most_codes (code_count c.args.sheet.now) ≡ c.outside-2.result = sym (c.outside-2.ensures ∙ ap (λ (d : Card). outside 1 most_codes d.codes) c.of_header-card.ensures) in
    after_kinds ∙ test_passes 3 0 _ _ (codes_test ∙ c.if-outside-2.false)

after_lines : (c : Else-lines-gt-LINES) → After 4 c.args.sheet.now
unfolding header_checks
after_lines c =
    let after_codes : After 3 c.args.sheet.now = let after_kinds : After 2 c.args.sheet.now = let after_length : After 1 c.args.sheet.now = less_passes 1 0 _ _ _ c.if-sheet-lt-HEADER.false in let kinds_test : outside 1 most_kinds (kind_count c.args.sheet.now) ≡ c.outside.result = sym (c.outside.ensures ∙ ap (λ (d : Card). outside 1 most_kinds d.kinds) c.of_header-card.ensures) in after_length ∙ test_passes 2 0 _ _ (kinds_test ∙ c.if-outside.false) in let codes_test : outside 1 most_codes (code_count c.args.sheet.now) ≡ c.outside-2.result = sym (c.outside-2.ensures ∙ ap (λ (d : Card). outside 1 most_codes d.codes) c.of_header-card.ensures) in after_kinds ∙ test_passes 3 0 _ _ (codes_test ∙ c.if-outside-2.false) in
    let of-header = c.of_header-card in
    let e = ap (λ (d : Card). d.lines) of-header.ensures in
    after_codes ∙ less_passes 4 0 _ most_lines (line_count c.args.sheet.now) (omega (arith, e))

pub returns-then-sheet-lt-HEADER : goal.returns-then-sheet-lt-HEADER
unfolding header_checks
returns-then-sheet-lt-HEADER c = refuses _ _ 1 0 (less_stops 1 0 _ _ _ c.if-sheet-lt-HEADER.true)

pub returns-then-outside : goal.returns-then-outside
unfolding header_checks
returns-then-outside c = refuses _ _ 2 0 (after_length (goal.at.returns-then-outside c).Else-sheet-lt-HEADER ∙ test_stops 2 0 _ _ (kinds_test (goal.at.returns-then-outside c).After-outside ∙ c.if-outside.true))

pub returns-then-outside-2 : goal.returns-then-outside-2
unfolding header_checks
returns-then-outside-2 c = refuses _ _ 3 0 (after_kinds (goal.at.returns-then-outside-2 c).Else-outside ∙ test_stops 3 0 _ _ (codes_test (goal.at.returns-then-outside-2 c).After-outside-2 ∙ c.if-outside-2.true))

pub returns-then-lines-gt-LINES : goal.returns-then-lines-gt-LINES
unfolding header_checks
returns-then-lines-gt-LINES c =
    let of-header = c.of_header-card in
    let e = ap (λ (d : Card). d.lines) of-header.ensures in
    refuses _ _ 4 0 (after_codes (goal.at.returns-then-lines-gt-LINES c).Else-outside-2 ∙ less_stops 4 0 _ most_lines (line_count c.args.sheet.now) (omega (arith, e)))

pub returns-then-fields-gt-FIELDS : goal.returns-then-fields-gt-FIELDS
unfolding header_checks
returns-then-fields-gt-FIELDS c =
    let of-header = c.of_header-card in
    let e = ap (λ (d : Card). d.fields) of-header.ensures in
    refuses _ _ 5 0 (after_lines (goal.at.returns-then-fields-gt-FIELDS c).Else-lines-gt-LINES ∙ less_stops 5 0 _ most_fields (field_count c.args.sheet.now) (omega (arith, e)))

pub returns : goal.returns
unfolding header_checks
returns c =
    let of-header = c.of_header-card in
    let e = ap (λ (d : Card). d.fields) of-header.ensures in
    passes _ _ _ of-header.ensures
    (after_lines (goal.at.returns c).Else-lines-gt-LINES ∙ less_passes 5 0 _ most_fields (field_count c.args.sheet.now) (omega (arith, e)) ∙ clear_nil)
