use Prim.Native.Nat.{◌*◌, ◌^◌}
use mathlib.Core.Path.{refl}
use native.Mathlib.Omega.{arith}
use Rattle.model.specs.Field.{weigh, at}
use Rattle.weights.proofs.Counts.{SumMore, sum_more}
use Rattle.weights.proofs.fields.field_norm.Goals as goal
use Rattle.weights.proofs.fields.field_norm.Goals.{After-from-in-loop-kind}

pub loop-kind-init : goal.loop-kind-init
unfolding weigh
loop-kind-init c = refl

-- What a turn adds.
more : (c : After-from-in-loop-kind)
    → let args = c.args in
    let loop = c.loop-kind in
    SumMore loop.kind (at args.norms) (at args.field) loop.sum (c.from.result * c.from-in-loop-kind.result) (2 ^ 64)
more c =
    let args = c.args in
    let loop = c.loop-kind in
    sum_more loop.kind args.kinds (at args.norms) (at args.field) (2 ^ 64) loop.sum c.from.result c.from-in-loop-kind.result (omega arith) c.requires.field_bound loop.invariant c.from.ensures
    c.from-in-loop-kind.ensures

pub overflow_add-sum : goal.overflow_add-sum
overflow_add-sum c = record { fits = (more (goal.at.overflow_add-sum c).After-from-in-loop-kind).sum_fits }

pub loop-kind-preserved : goal.loop-kind-preserved
loop-kind-preserved c = (more (goal.at.loop-kind-preserved c).After-from-in-loop-kind).sum_is
