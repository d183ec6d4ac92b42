use native.Mathlib.Omega.{arith}
use Rattle.tables.proofs.Tables.{differ}
use Rattle.tables.proofs.effect.same_effect.Goals as goal

pub returns-then-here-there : goal.returns-then-here-there
returns-then-here-there c = differ c.loop-i.i (λ e. c.if-here-there.true (omega arith))
