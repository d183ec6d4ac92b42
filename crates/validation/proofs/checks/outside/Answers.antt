-- By the first of the two tests.
use borrow.Author.Tests.{lt-ltb, le-ltb}
use Rattle.validation.proofs.checks.outside.Goals as goal

pub returns-then-number-low : goal.returns-then-number-low
returns-then-number-low c = rw (lt-ltb _ _ c.if-number-low.true)

pub returns-else-number-low : goal.returns-else-number-low
returns-else-number-low c = rw (le-ltb _ _ c.if-number-low.false)
