use native.Mathlib.Omega.{arith}
use Rattle.tables.proofs.Tables.{tells_same, tells_other}
use Rattle.ranks.proofs.Laws.{line_order}
use Rattle.ranks.proofs.Merging.{line_at, passing_more, passing_fails, passing_all}
use Rattle.ranks.proofs.matched.each_matched_in_order.Goals as goal

pub skip-reached-requires : goal.skip-reached-requires
skip-reached-requires c = record { lines_of = (c.requires.lines_of.1, rw c.from-line.ensures (line_at c.args.effects.now.lines c.args.list.now c.requires.lines_of.0 c.loop-place.place (omega (arith, c.loop-place-test.true)))); from_in_bounds = c.loop-place.invariant.reached_within }

pub is_match_at-requires : goal.is_match_at-requires
is_match_at-requires c = record { lines_of = (c.requires.lines_of.1, rw c.from-line.ensures (line_at c.args.effects.now.lines c.args.list.now c.requires.lines_of.0 c.loop-place.place (omega (arith, c.loop-place-test.true)))) }

pub loop-place-preserved : goal.loop-place-preserved
loop-place-preserved c =
    let order = line_order c.args.effects.now in
    passing_more order c.loop-place.invariant (omega (arith, c.loop-place-test.true)) (rw c.from-line.ensures at c.skip-reached.ensures) c.requires.in_order.0 (rw c.from-line.ensures at c.is_match_at.ensures) c.if-not-is_match_at.false

pub returns-then-not-is_match_at : goal.returns-then-not-is_match_at
returns-then-not-is_match_at c =
    let order = line_order c.args.effects.now in
    tells_other (passing_fails order c.loop-place.invariant (omega (arith, c.loop-place-test.true)) (rw c.from-line.ensures at c.skip-reached.ensures) c.requires.in_order.1 (rw c.from-line.ensures at c.is_match_at.ensures) c.if-not-is_match_at.true)

pub returns : goal.returns
returns c = tells_same (passing_all c.loop-place.invariant (omega (arith, c.loop-place-test.false)))
