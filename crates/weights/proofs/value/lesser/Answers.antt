-- Each of the four cases.
use mathlib.Core.Path.{sym}
use native.Mathlib.Omega.{arith}
use Rattle.weights.proofs.Values.{lesser_right, lesser_left, lesser_both}
use Rattle.weights.proofs.value.lesser.Goals as goal

pub returns-then-first-eq0 : goal.returns-then-first-eq0
returns-then-first-eq0 c = sym (lesser_right c.args.first c.args.second c.if-first-eq0.true)

pub returns-then-second-eq0 : goal.returns-then-second-eq0
returns-then-second-eq0 c = sym (lesser_left c.args.first c.args.second c.if-first-eq0.false c.if-second-eq0.true)

pub returns-then-first-second : goal.returns-then-first-second
returns-then-first-second c = omega (arith, lesser_both c.args.first c.args.second c.if-first-eq0.false c.if-second-eq0.false)

pub returns-else-first-second : goal.returns-else-first-second
returns-else-first-second c = omega (arith, lesser_both c.args.first c.args.second c.if-first-eq0.false c.if-second-eq0.false)
