use Rattle.ranks.proofs.Laws.{line_order}
use Rattle.tables.proofs.Matching.{numbered_tells}
use Rattle.ranks.proofs.classes.ordered_classes.Goals as goal

pub returns-clause-tells_match : goal.returns-clause-tells_match
returns-clause-tells_match c =
    numbered_tells c.loop-line.invariant.numbered (line_order c.args.effects.now).same (rw c.lines.ensures.lent at c.loop-line-test.false)
