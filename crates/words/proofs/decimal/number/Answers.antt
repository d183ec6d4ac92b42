use mathlib.Core.Path.{◌∙◌}
use borrow.Author.Tests.{true-eqb, false-eqb}
use Rattle.words.proofs.Decimals.{none, reading_starts, reading_other, reading_over, reading_on, reading_ends}
use Rattle.words.proofs.decimal.number.Goals as goal

pub returns-then-is_empty : goal.returns-then-is_empty
returns-then-is_empty c = none c.args.most c.args.word.now (true-eqb _ _ c.if-is_empty.ensures)

pub loop-byte-init : goal.loop-byte-init
loop-byte-init c = reading_starts c.args.most c.args.word.now (false-eqb _ _ c.if-is_empty.ensures)

pub returns-in_err-next : goal.returns-in_err-next
returns-in_err-next c =
    let loop = c.loop-byte in
    c.from_residual.ensures ∙ reading_other c.args.most c.args.word.now loop.value loop.byte-index loop.invariant c.loop-byte-test.true c.in_err-next.ensures

pub returns-then-most-next : goal.returns-then-most-next
returns-then-most-next c =
    let loop = c.loop-byte in
    reading_over c.args.most c.args.word.now loop.value loop.byte-index loop.invariant c.loop-byte-test.true c.in_ok-next.next c.in_ok-next.ensures.0 c.in_ok-next.ensures.1 c.requires c.if-most-next.true

pub loop-byte-preserved : goal.loop-byte-preserved
loop-byte-preserved c =
    let loop = c.loop-byte in
    reading_on c.args.most c.args.word.now loop.value loop.byte-index loop.invariant c.loop-byte-test.true c.in_ok-next.next c.in_ok-next.ensures.0 c.in_ok-next.ensures.1 c.requires c.if-most-next.false

pub returns : goal.returns
returns c = reading_ends c.args.most c.args.word.now c.loop-byte.value c.loop-byte.byte-index c.loop-byte.invariant c.loop-byte-test.false
