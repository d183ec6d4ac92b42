use mathlib.Core.List.{List}
use mathlib.Core.Path.{refl, sym, ◌∙◌, ap}
use Prim.Native.Nat.{ℕ, ◌+◌}
use native.Mathlib.Omega.{arith}
use lib.ListN.{replicate}
use lib.Seq.{length-take-le}
use Rattle.model.specs.Answer.{written}
use Rattle.numbering.proofs.Calls.{copied}
use Rattle.frequencies.proofs.Places.{placed_none, placed_more, placed_all, related_most, before_most}
use Rattle.frequencies.proofs.entry.write_places.Goals as goal

pub overflow_cast-counts : goal.overflow_cast-counts
overflow_cast-counts c =
    omega (arith, c.requires.all_le_most_listed.0, related_most c.args.all c.args.related.now c.args.kinds c.requires.by_index c.args.kinds (omega arith))

pub loop-stage-init : goal.loop-stage-init
loop-stage-init c = placed_none (replicate 34 0) refl refl

pub overflow_sub-counts : goal.overflow_sub-counts
overflow_sub-counts c =
    let loop = c.loop-stage in
    omega (arith, loop.invariant.before_is, c.requires.by_index loop.stage (omega (arith, c.loop-stage-test.true)))

pub overflow_cast-counts-in-loop-stage : goal.overflow_cast-counts-in-loop-stage
overflow_cast-counts-in-loop-stage c =
    let loop = c.loop-stage in
    omega (arith, loop.invariant.before_is, c.requires.all_le_most_listed.0, before_most c.args.all c.args.related.now c.args.kinds c.requires.by_index loop.stage (omega (arith, c.loop-stage-test.true)))

pub loop-stage-preserved : goal.loop-stage-preserved
loop-stage-preserved c = placed_more c.loop-stage.invariant (omega (arith, c.loop-stage-test.true)) c.requires.all_le_most_listed.1 refl

pub slice_bounds-counts-end : goal.slice_bounds-counts-end
slice_bounds-counts-end c = omega (arith, c.loop-stage.invariant.long, c.requires.all_le_most_listed.1)

pub slice_bounds-write-end : goal.slice_bounds-write-end
slice_bounds-write-end c = sym (length-take-le _ _ (omega (arith, c.loop-stage.invariant.long, c.requires.all_le_most_listed.1)))

pub write-requires : goal.write-requires
write-requires c = omega (arith, length-take-le (c.args.kinds + 2) c.loop-stage.counts (omega (arith, c.loop-stage.invariant.long, c.requires.all_le_most_listed.1)), c.requires.all_le_most_listed.2)

pub returns : goal.returns
returns c =
    let loop = c.loop-stage in
    copied _ _ _ c.write.ensures ∙ ap (λ (xs : List ℕ). written xs c.args.buffer.now) (placed_all loop.invariant (omega (arith, c.loop-stage-test.false)) c.requires.all_le_most_listed.1)
