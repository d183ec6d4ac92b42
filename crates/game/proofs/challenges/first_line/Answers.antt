-- By whether the challenge is the first side's.
use Rattle.game.proofs.Sides.{first_challenges, second_challenges}
use Rattle.game.proofs.challenges.first_line.Goals as goal

pub returns-then-number-lines : goal.returns-then-number-lines
returns-then-number-lines c = (first_challenges _ _ _ c.if-number-lines.true).0

pub returns-else-number-lines : goal.returns-else-number-lines
returns-else-number-lines c = (second_challenges _ _ _ c.if-number-lines.false).0
