use borrow.Author.Rules.{rules}
use mathlib.Core.Path.{◌≡◌}
use Prim.Native.Nat.{◌-◌, ◌<◌}
use native.Mathlib.Omega.{arith}
use lib.ListN.{get_or}
use Rattle.shelf.proofs.Loops.{found_start, found_kind, found_none, found_one, found_end}
use Rattle.shelf.proofs.field.field_in.Goals as goal
use Rattle.shelf.proofs.field.field_in.Goals.{In-loop-left}

pub loop-left-init : goal.loop-left-init
loop-left-init c =
    let args = c.args in
    found_start args.kinds.now args.size args.number (search rules)

-- Where a token is left there is a kind left, one of 32.
kind_left : (c : In-loop-left) → 0 < c.loop-left.i
kind_left c =
    let args = c.args in
    let loop = c.loop-left in
    found_kind args.kinds.now args.size args.number loop.counts loop.i loop.left loop.rest loop.invariant (search rules)

under : (c : In-loop-left) → get_or c.args.kinds.now (c.loop-left.i - 1) 0 < 32
under c =
    let loop = c.loop-left in
    c.requires.in_order.under (loop.i - 1) (omega (arith, loop.invariant.kinds_left, kind_left c))

pub overflow_sub-i : goal.overflow_sub-i
overflow_sub-i c = kind_left (goal.at.overflow_sub-i c).In-loop-left

pub entry_in-without-requires : goal.entry_in-without-requires
entry_in-without-requires c =
    let loop = c.loop-left in
    record { in_table = (omega (arith, loop.invariant.kinds_left, c.requires.in_order.many), omega (arith, loop.invariant.few 0, c.requires.size_le_most_tokens)); obeys = c.requires.obeys }

pub overflow_sub-i-then-rest-without : goal.overflow_sub-i-then-rest-without
overflow_sub-i-then-rest-without c = kind_left (goal.at.overflow_sub-i-then-rest-without c).In-loop-left

pub loop-left-smaller-then-rest-without : goal.loop-left-smaller-then-rest-without
loop-left-smaller-then-rest-without c = omega (arith, kind_left (goal.at.loop-left-smaller-then-rest-without c).In-loop-left)

pub loop-left-preserved-then-rest-without : goal.loop-left-preserved-then-rest-without
loop-left-preserved-then-rest-without c =
    let args = c.args in
    let loop = c.loop-left in
    found_none args.kinds.now args.size args.number loop.counts loop.i loop.left loop.rest loop.invariant (search rules) (omega (arith, c.entry_in-without.ensures))

pub overflow_sub-kind : goal.overflow_sub-kind
overflow_sub-kind c = kind_left (goal.at.overflow_sub-kind c).In-loop-left

pub offset_bounds-kinds-i : goal.offset_bounds-kinds-i
offset_bounds-kinds-i c =
    omega (arith, c.loop-left.invariant.kinds_left, c.requires.in_order.many)

pub bounds-kinds-i : goal.bounds-kinds-i
bounds-kinds-i c =
    let loop = c.loop-left in
    omega (arith, loop.invariant.kinds_left, kind_left (goal.at.bounds-kinds-i c).In-loop-left)

pub offset_bounds-counts-kind : goal.offset_bounds-counts-kind
offset_bounds-counts-kind c = omega (arith, under (goal.at.offset_bounds-counts-kind c).In-loop-left)

pub bounds-counts-kind : goal.bounds-counts-kind
bounds-counts-kind c = under (goal.at.bounds-counts-kind c).In-loop-left

pub overflow_add-counts : goal.overflow_add-counts
overflow_add-counts c =
    let loop = c.loop-left in
    omega (arith, loop.invariant.few (get_or c.args.kinds.now (loop.i - 1) 0), c.requires.size_le_most_tokens)

pub bounds-counts-kind-else-rest-without : goal.bounds-counts-kind-else-rest-without
bounds-counts-kind-else-rest-without c = under (goal.at.bounds-counts-kind-else-rest-without c).In-loop-left

pub loop-left-preserved : goal.loop-left-preserved
loop-left-preserved c =
    let loop = c.loop-left in
    let a = c.args in
    rw c.entry_in-without.ensures
    (found_one a.kinds.now a.size a.number loop.counts loop.i loop.left loop.rest loop.invariant (search rules) c.requires.in_order (λ h. omega (arith, c.entry_in-without.ensures)))

pub returns : goal.returns
returns c =
    let args = c.args in
    let loop = c.loop-left in
    let z : loop.left ≡ 0 = omega arith in
    found_end args.kinds.now args.size args.number loop.counts loop.i loop.rest (rw z at loop.invariant)
