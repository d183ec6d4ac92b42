use Prim.Native.Nat.{ℕ, ◌+◌, ◌-◌, ◌≤◌}
use mathlib.Core.Path.{◌≡◌}
use native.Mathlib.Omega.{arith}
use lib.ListN.{get_or}
use Rattle.model.specs.Field.{at}
use Rattle.model.specs.Shelf.{entry}
use Rattle.shelf.proofs.Loops.{Numbered, numbered_start, numbered_next, numbered_end, numbered_fits}
use Rattle.shelf.proofs.number.number_in.Goals as goal
use Rattle.shelf.proofs.number.number_in.Goals.{In-loop-i}

pub loop-i-init : goal.loop-i-init
loop-i-init c =
    numbered_start c.args.kinds.now (at c.args.field.now) c.args.size c.requires.in_order c.requires.size_le_most_tokens c.requires.listed

-- What a turn does.
turn : (c : In-loop-i) (fewer : ℕ)
    → let loop = c.loop-i in
    let count = get_or c.args.field.now (get_or c.args.kinds.now (loop.i - 1) 0) 0 in
    (count ≤ loop.left) × (fewer + entry (loop.i - 1 + 1) (loop.left - count) ≡ entry (loop.i - 1 + 1) loop.left
    → Numbered c.args.kinds.now (at c.args.field.now) c.args.size (loop.number + fewer) (loop.left - count) (loop.i - 1))
turn c fewer =
    let loop = c.loop-i in
    numbered_next c.args.kinds.now (at c.args.field.now) c.args.size c.requires.in_order loop.number loop.left loop.i fewer loop.invariant (omega arith)

pub with_fewer-number-requires-clause-in_table : goal.with_fewer-number-requires-clause-in_table
with_fewer-number-requires-clause-in_table c =
    let loop = c.loop-i in
    (omega arith, omega (arith, loop.invariant.kinds_left, c.requires.in_order.many), loop.invariant.few, (turn (goal.at.with_fewer-number-requires-clause-in_table c).In-loop-i 0).0)

pub overflow_add-number : goal.overflow_add-number
overflow_add-number c =
    omega (
      arith,
      ((turn (goal.at.overflow_add-number c).In-loop-i c.with_fewer-number.result).1 c.with_fewer-number.ensures).sum,
      numbered_fits c.args.kinds.now (at c.args.field.now) c.args.size c.requires.in_order c.requires.size_le_most_tokens c.requires.listed,
    )

pub overflow_sub-left : goal.overflow_sub-left
overflow_sub-left c = (turn (goal.at.overflow_sub-left c).In-loop-i 0).0

pub loop-i-preserved : goal.loop-i-preserved
loop-i-preserved c = (turn (goal.at.loop-i-preserved c).In-loop-i c.with_fewer-number.result).1 c.with_fewer-number.ensures

pub returns : goal.returns
returns c =
    let loop = c.loop-i in
    let z : loop.i ≡ 0 = omega arith in
    numbered_end c.args.kinds.now (at c.args.field.now) c.args.size loop.number loop.left (rw z at loop.invariant)
