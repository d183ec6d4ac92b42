use mathlib.Core.Path.{◌≡◌}
use Prim.Native.Nat.{◌*◌, ◌≤◌}
use native.Mathlib.Omega.{arith}
use lib.ListN.{length}
use Rattle.model.specs.Finite.{list_from}
use Rattle.model.specs.Field.{at}
use Rattle.model.specs.Squads.{remainder}
use Rattle.theory.proofs.Lists.{length_from}
use Rattle.theory.proofs.Writing.{begun_none, begun_more, begun_length, begun_all}
use Rattle.quotients.proofs.Loops.{left_at, left_fits}
use Rattle.quotients.proofs.remainder.write_remainder.Goals as goal
use Rattle.quotients.proofs.remainder.write_remainder.Goals.{In-loop-kind, Start}

-- There is a count for each of the whole's.
long : (s : Start) → length (list_from (remainder (length s.args.whole.now) (at s.args.whole.now) (at s.args.squad.now)) 0 (length s.args.whole.now)) ≡ length s.args.whole.now
long s = length_from _ 0 _

-- What is taken away is no more than there is.
fits : (c : In-loop-kind) → c.args.times * at c.args.squad.now c.loop-kind.kind ≤ at c.args.whole.now c.loop-kind.kind
fits c = left_fits _ _ _ _ c.requires.times_value _ c.loop-kind-test.true

pub loop-kind-init : goal.loop-kind-init
loop-kind-init c = begun_none _ _ (omega (arith, long (goal.at.loop-kind-init c).Start, c.requires.whole_in_bounds))

pub overflow_mul-buffer : goal.overflow_mul-buffer
overflow_mul-buffer c = record { fits = omega (arith, fits (goal.at.overflow_mul-buffer c).In-loop-kind, c.type_inv.whole c.loop-kind.kind) }

pub overflow_sub-buffer : goal.overflow_sub-buffer
overflow_sub-buffer c = fits (goal.at.overflow_sub-buffer c).In-loop-kind

pub bounds-buffer-kind : goal.bounds-buffer-kind
bounds-buffer-kind c =
    let invariant = c.loop-kind.invariant in
    omega (arith, invariant.room, begun_length invariant, long (goal.at.bounds-buffer-kind c).Start, c.loop-kind-test.true)

pub loop-kind-preserved : goal.loop-kind-preserved
loop-kind-preserved c =
    let loop-test = c.loop-kind-test.true in
    begun_more c.loop-kind.invariant _ (omega (arith, long (goal.at.loop-kind-preserved c).Start)) (left_at _ _ _ _ c.requires.times_value _ loop-test)

pub returns : goal.returns
returns c = begun_all c.loop-kind.invariant (omega (arith, long (goal.at.returns c).Start, c.loop-kind-test.false))
