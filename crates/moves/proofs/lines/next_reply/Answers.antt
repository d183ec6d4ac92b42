use native.Mathlib.Omega.{arith}
use mathlib.Core.Path.{sym, ◌∙◌}
use Prim.Native.Nat.{◌+◌, ◌<◌}
use Rattle.sheet.proofs.Laws.{lines_are, lines_most}
use Rattle.moves.proofs.Following.{follows_later, seeking_starts, seeking_on, seeking_found, seeking_ends}
use Rattle.moves.proofs.lines.next_reply.Goals as goal

pub following-line-requires : goal.following-line-requires
following-line-requires c =
    (omega (arith, c.requires.challenge_lt_lines, lines_most c.requires.reads.0), c.row_entry-code.ensures.1)

pub loop-line-init : goal.loop-line-init
loop-line-init c =
    seeking_starts c.requires.reads.1 c.row_entry-code.result _ c.row_entry-code.ensures.0 c.row_entry-code.ensures.1 (omega (arith, c.requires.challenge_lt_lines, lines_are c.requires.reads.0)) c.following-line.ensures

pub returns-then-may_use : goal.returns-then-may_use
returns-then-may_use c =
    seeking_found c.loop-line.invariant c.args.to (omega (arith, c.requires.challenge_lt_lines, lines_are c.requires.reads.0)) c.loop-line-test.true (sym c.may_use.ensures ∙ c.if-may_use.true)

pub following-line-requires-in-loop-line : goal.following-line-requires-in-loop-line
following-line-requires-in-loop-line c =
    (omega (arith, c.requires.challenge_lt_lines, c.loop-line-test.true, lines_most c.requires.reads.0), c.row_entry-code.ensures.1)

pub loop-line-smaller : goal.loop-line-smaller
loop-line-smaller c =
    let code = c.row_entry-code in
    let h : c.loop-line.line < c.args.to = c.loop-line-test.true in
    omega (arith, c.following-line-in-loop-line.ensures, follows_later c.requires.reads.1 (c.loop-line.line + 1) code.result (omega (arith, c.requires.challenge_lt_lines, lines_are c.requires.reads.0)) code.ensures.1)

pub loop-line-preserved : goal.loop-line-preserved
loop-line-preserved c =
    let code = c.row_entry-code in
    let h : c.loop-line.line < c.args.to = c.loop-line-test.true in
    seeking_on c.requires.reads.1 code.result _ code.ensures.0 code.ensures.1 c.loop-line.line c.loop-line.invariant (omega (arith, c.requires.challenge_lt_lines, lines_are c.requires.reads.0)) (sym c.may_use.ensures ∙ c.if-may_use.false) c.following-line-in-loop-line.ensures

pub returns : goal.returns
returns c =
    seeking_ends c.loop-line.invariant c.args.to (omega (arith, c.requires.challenge_lt_lines, lines_are c.requires.reads.0)) c.requires.challenge_lt_lines.1 c.loop-line-test.false
