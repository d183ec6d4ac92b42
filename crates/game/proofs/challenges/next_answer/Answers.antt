-- By whether the challenge is the first side's.
use native.Mathlib.Omega.{arith}
use Rattle.sheet.proofs.Laws.{lines_are}
use Rattle.game.proofs.Sides.{by_first, by_second}
use Rattle.game.proofs.challenges.next_answer.Goals as goal

pub returns-then-number-lines : goal.returns-then-number-lines
returns-then-number-lines c =
    rw (by_first c.args.sheet.now c.args.number (omega (arith, lines_are c.requires.reads.0, c.if-number-lines.true))) c.next_reply.ensures

pub returns-else-number-lines : goal.returns-else-number-lines
returns-else-number-lines c =
    let e = lines_are c.requires.reads.0 in
    rw (by_second c.args.sheet.now c.args.number (omega (arith, e, c.if-number-lines.false)), ← e) c.next_reply-else-number-lines.ensures
