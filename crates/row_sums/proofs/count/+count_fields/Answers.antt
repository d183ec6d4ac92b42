use mathlib.Core.List.{reverse}
use mathlib.Core.Logic.{◌↔◌}
use mathlib.Core.Path.{◌≡◌}
use Rattle.std.specs.Prelude.{IsTrue, EachIndex, slice_index}
use Prim.Native.Nat.{◌+◌}
use native.Mathlib.Omega.{arith}
use Rattle.tables.proofs.Tables.{told_not}
use Rattle.row_sums.proofs.Loops.{in_order_first, row_long, empty_adds, empty_differs, counted_start, counted_room, counted_more, counted_over}
use borrow.Author.Rules.{rules}
use Rattle.row_sums.proofs.count.+count_fields.Goals as goal
use Rattle.row_sums.proofs.count.+count_fields.Goals.{in-Some, in_default}

pub returns-then-all : goal.returns-then-all
returns-then-all t c =
    let zero : IsTrue c.all.result ↔ EachIndex c.args.counts.now (λ k. slice_index c.args.counts.now k ≡ 0) = search rules in
    empty_adds c.args.rows.now (reverse c.args.kinds.now) c.args.counts.now c.if-size-eq0.true c.requires.rows_len.1 (zero.0 c.if-all.true)

pub returns-then-size-eq0 : goal.returns-then-size-eq0
returns-then-size-eq0 t c =
    let zero : IsTrue c.all.result ↔ EachIndex c.args.counts.now (λ k. slice_index c.args.counts.now k ≡ 0) = search rules in
    empty_differs c.args.rows.now (reverse c.args.kinds.now) c.args.counts.now c.if-size-eq0.true c.requires.rows_len.1 (told_not zero c.if-all.false)

pub loop-i-init : goal.loop-i-init
loop-i-init t c = counted_start (omega arith)

pub less_row-requires : goal.less_row-requires
less_row-requires t c = (c.requires.rows_len.1, row_long c.args.rows.now c.requires.rows_len.0 c.requires.in_order c.loop-i.i c.loop-i-test.true c.row_of.ensures)

pub count_fields-found-requires : goal.count_fields-found-requires
count_fields-found-requires t c =
    let sorted = in_order_first c.args.kinds.now (c.loop-i.i + 1) c.requires.in_order (omega (arith, c.loop-i-test.true)) in
    (omega (arith, c.decreases), (sorted, (omega (arith, c.requires.size_le_most_tokens), (c.requires.rows_len.0, search rules))))

pub overflow_add-found : goal.overflow_add-found
overflow_add-found t c =
    let more =
    counted_more c.loop-i.invariant c.requires.in_order c.requires.rows_len.1 (omega arith) c.loop-i-test.true c.row_of.ensures c.in-Some.rest c.in-Some.ensures c.count_fields-found.result c.count_fields-found.ensures in
    record { fits = counted_room more c.requires.in_order c.requires.size_le_most_tokens }

pub loop-i-preserved : goal.loop-i-preserved
loop-i-preserved t c = elim c.match-less_row.branch [
  | in-Some w ↦ rw w.found-is (counted_more c.loop-i.invariant c.requires.in_order c.requires.rows_len.1 (omega arith) c.loop-i-test.true c.row_of.ensures w.in-Some.rest w.in-Some.ensures w.count_fields-found.result w.count_fields-found.ensures)
  | in_default w ↦ rw w.found-is (counted_over c.loop-i.invariant c.requires.in_order c.requires.rows_len.1 (omega arith) c.loop-i-test.true c.row_of.ensures w.in_default.ensures)
]
