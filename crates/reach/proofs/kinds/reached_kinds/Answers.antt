use native.Mathlib.Omega.{arith}
use Prim.Native.Nat.{◌<◌}
use lib.ListN.{length}
use Rattle.model.specs.Limits.{most_kinds}
use Rattle.theory.proofs.Done.{fewer_left}
use Rattle.reach.proofs.Following.{followed_none, followed_more, followed_all}
use Rattle.reach.proofs.kinds.reached_kinds.Goals as goal

pub loop-kind-init : goal.loop-kind-init
loop-kind-init c = followed_none c.requires c.mark_fields.auto.marks c.mark_fields.ensures

pub loop-kind-smaller : goal.loop-kind-smaller
loop-kind-smaller c =
    let loop = c.loop-kind in
    let kind = c.in-Some.kind in
    let next = c.in-Some.ensures in
    let within : kind < most_kinds = omega (arith, next.within, loop.invariant.marks_long) in
    let l : kind < length loop.done = omega (arith, next.within, loop.invariant.marks_long, loop.invariant.done_long) in
    fewer_left most_kinds loop.done kind within l next.here.1

pub loop-kind-preserved : goal.loop-kind-preserved
loop-kind-preserved c =
    followed_more c.requires c.loop-kind.invariant c.in-Some.ensures.here.0 c.mark_left.auto.marks c.mark_left.ensures

pub returns : goal.returns
returns c =
    followed_all c.requires c.loop-kind.invariant c.in_default.ensures
