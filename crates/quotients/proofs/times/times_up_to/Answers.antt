-- Without a count of the squad's there is no bound; else the quotient is one.
use native.Mathlib.Omega.{arith}
use Rattle.quotients.proofs.Loops.{up_without, up_some}
use Rattle.quotients.proofs.times.times_up_to.Goals as goal

pub returns-then-squad-eq0 : goal.returns-then-squad-eq0
returns-then-squad-eq0 c = up_without _ _ _ c.if-squad-eq0.true

pub returns : goal.returns
returns c = up_some _ _ _ (omega (arith, c.if-squad-eq0.false)) (omega arith)
