use borrow.Author.Count.{below_more}
use native.Mathlib.Omega.{arith}
use mathlib.Core.Path.{◌≡◌, sym, ap}
use Prim.Native.Nat.{◌≤◌}
use Rattle.model.specs.Limits.{most_kinds, most_lines}
use Rattle.model.specs.Sheet.{kind_count, code_count, line_count, line_of}
use Rattle.sheet.specs.declared.reader.Card.{Card}
use Rattle.sheet.proofs.Laws.{numbers_limits, header_clear}
use Rattle.sheet.proofs.Reading.{kind_read, code_read}
use Rattle.validation.proofs.Checking.{kind_stops, code_stops, line_passes, lines_stop, lines_pass}
use Rattle.validation.proofs.checks.check_lines.Goals as goal
use Rattle.validation.proofs.checks.check_lines.Goals.{After-byte_at, After-byte_at-in-loop-line, Start}

-- The card's numbers are the header's, and within their limits.
kinds_is : (c : Start) → c.args.card.kinds ≡ kind_count c.args.sheet.now
kinds_is c = ap (λ (d : Card). d.kinds) c.requires.card_value

codes_is : (c : Start) → c.args.card.codes ≡ code_count c.args.sheet.now
codes_is c = ap (λ (d : Card). d.codes) c.requires.card_value

lines_is : (c : Start) → c.args.card.lines ≡ line_count c.args.sheet.now
lines_is c = ap (λ (d : Card). d.lines) c.requires.card_value

within : (c : Start) → (c.args.card.kinds ≤ most_kinds) × (c.args.card.lines ≤ most_lines)
within c =
    let n = numbers_limits c.args.sheet.now (header_clear c.args.sheet.now c.requires.sheet_value).0 in
    (omega (arith, kinds_is c, n.kinds.1), omega (arith, lines_is c, n.lines))

-- The bytes that are read are the line's kind and code.
kind_is : (c : After-byte_at) → c.byte_at.result ≡ (line_of c.args.sheet.now c.loop-line.line).kind
kind_is c =
    kind_read _ _ c.requires.card_value _ _ _ c.line_start-start.ensures.0 c.byte_at.ensures.0

code_is : (c : After-byte_at-in-loop-line)
    → let loop = c.loop-line in
    c.byte_at-in-loop-line.result ≡ (line_of c.args.sheet.now loop.line).code
code_is c =
    code_read _ _ c.requires.card_value _ _ _ c.line_start-start.ensures.0 c.byte_at-in-loop-line.ensures.0

pub loop-line-init : goal.loop-line-init
loop-line-init c = λ q h. absurd (omega arith)

pub line_start-start-requires : goal.line_start-start-requires
line_start-start-requires c =
    let w = within (goal.at.line_start-start-requires c).Start in
    (w.0, omega (arith, w.1))

pub returns-then-kinds-byte_at : goal.returns-then-kinds-byte_at
returns-then-kinds-byte_at c =
    let loop = c.loop-line in
    sym (lines_stop c.args.sheet.now loop.line 7 loop.line (omega (arith, lines_is (goal.at.returns-then-kinds-byte_at c).Start)) loop.invariant
    (kind_stops c.args.sheet.now loop.line (omega (arith, kinds_is (goal.at.returns-then-kinds-byte_at c).Start, kind_is (goal.at.returns-then-kinds-byte_at c).After-byte_at))))

pub returns-then-codes-byte_at : goal.returns-then-codes-byte_at
returns-then-codes-byte_at c =
    let loop = c.loop-line in
    sym (lines_stop c.args.sheet.now loop.line 8 loop.line (omega (arith, lines_is (goal.at.returns-then-codes-byte_at c).Start)) loop.invariant
    (code_stops c.args.sheet.now loop.line (omega (arith, kinds_is (goal.at.returns-then-codes-byte_at c).Start, kind_is (goal.at.returns-then-codes-byte_at c).After-byte_at)) (omega (arith, codes_is (goal.at.returns-then-codes-byte_at c).Start, code_is (goal.at.returns-then-codes-byte_at c).After-byte_at-in-loop-line))))

pub loop-line-preserved : goal.loop-line-preserved
loop-line-preserved c =
    let loop = c.loop-line in
    below_more _ _ loop.invariant
    (line_passes c.args.sheet.now loop.line (omega (arith, kinds_is (goal.at.loop-line-preserved c).Start, kind_is (goal.at.loop-line-preserved c).After-byte_at)) (omega (arith, codes_is (goal.at.loop-line-preserved c).Start, code_is (goal.at.loop-line-preserved c).After-byte_at-in-loop-line)))

pub returns : goal.returns
returns c =
    sym (lines_pass c.args.sheet.now (λ q h. c.loop-line.invariant q (omega (arith, lines_is (goal.at.returns c).Start))))
