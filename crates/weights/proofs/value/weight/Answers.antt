use mathlib.Core.Path.{refl}
use Prim.Native.Nat.{◌*◌, ◌^◌}
use native.Mathlib.Omega.{arith}
use lib.ListN.{length}
use Rattle.model.specs.Field.{weigh, at}
use Rattle.weights.proofs.Counts.{SumMore, sum_more}
use Rattle.weights.proofs.value.weight.Goals as goal
use Rattle.weights.proofs.value.weight.Goals.{After-from-in-loop-i}

pub loop-i-init : goal.loop-i-init
unfolding weigh
loop-i-init c = refl

-- What a turn adds.
more : (c : After-from-in-loop-i)
    → let args = c.args in
    let loop = c.loop-i in
    SumMore loop.i (at args.values.now) (at args.counts.now) loop.sum (c.from.result * c.from-in-loop-i.result) (2 ^ 64)
more c =
    let args = c.args in
    let loop = c.loop-i in
    sum_more loop.i (length args.counts.now) (at args.values.now) (at args.counts.now) (2 ^ 64) loop.sum c.from.result c.from-in-loop-i.result (omega arith)
    c.requires.counts_bound loop.invariant c.from.ensures c.from-in-loop-i.ensures

pub overflow_add-sum : goal.overflow_add-sum
overflow_add-sum c = record { fits = (more (goal.at.overflow_add-sum c).After-from-in-loop-i).sum_fits }

pub loop-i-preserved : goal.loop-i-preserved
loop-i-preserved c = (more (goal.at.loop-i-preserved c).After-from-in-loop-i).sum_is
