-- By the two cases of the definition.
use native.Mathlib.Omega.{arith}
use Rattle.filer.proofs.Rounds.{rounds_none, rounds_some}
use Rattle.filer.proofs.compare.rounds_for.Goals as goal

pub overflow_add-result : goal.overflow_add-result
overflow_add-result c =
    let args = c.args in
    omega (arith, rounds_none args.norm args.gain args.stage c.if-stage-eq0.true)

pub returns-then-stage-eq0 : goal.returns-then-stage-eq0
returns-then-stage-eq0 c =
    let args = c.args in
    rounds_none args.norm args.gain args.stage c.if-stage-eq0.true

pub overflow_add-result-2 : goal.overflow_add-result-2
overflow_add-result-2 c =
    let args = c.args in
    omega (arith, rounds_some args.norm args.gain args.stage c.if-stage-eq0.false)

pub overflow_mul-result : goal.overflow_mul-result
overflow_mul-result c =
    let args = c.args in
    omega (arith, rounds_some args.norm args.gain args.stage c.if-stage-eq0.false)

pub overflow_add-result-4 : goal.overflow_add-result-4
overflow_add-result-4 c =
    let args = c.args in
    omega (arith, rounds_some args.norm args.gain args.stage c.if-stage-eq0.false)

pub returns : goal.returns
returns c =
    let args = c.args in
    rounds_some args.norm args.gain args.stage c.if-stage-eq0.false
