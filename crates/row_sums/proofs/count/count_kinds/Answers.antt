use Prim.Native.Nat.{◌+◌}
use mathlib.Core.Bool.{true, false}
use mathlib.Core.Logic.{◌↔◌}
use mathlib.Core.Path.{◌≡◌}
use native.Mathlib.Omega.{arith}
use Rattle.model.specs.Field.{at}
use Rattle.tables.proofs.Tables.{told_not, counts_equal}
use Rattle.row_sums.proofs.Loops.{row_long, Counted, counted_start, counted_room, counted_row, counted_other}
use Rattle.row_sums.proofs.count.count_kinds.Goals as goal
use Rattle.row_sums.proofs.count.count_kinds.Goals.{After-eq, then-eq, else-eq}

pub loop-i-init : goal.loop-i-init
loop-i-init c = counted_start (omega arith)

-- Whether the row is the counts.
told : (c : After-eq) → (c.eq.result ≡ true) ↔ (at c.row_of.result.now ≡ at c.args.counts.now)
told c =
    counts_equal _ _ _ (omega (arith, c.requires.rows_len.1, row_long c.args.rows.now c.requires.rows_len.0 c.requires.in_order c.loop-i.i c.loop-i-test.true c.row_of.ensures)) c.eq.ensures

-- The row is the counts: one more is found.
one_more : (c : After-eq) → c.eq.result ≡ true → Counted c.args.rows.now c.args.kinds.now 1 c.args.counts.now (c.loop-i.found + 1) (c.loop-i.i + 1)
one_more c same =
    counted_row c.loop-i.invariant c.requires.in_order c.requires.rows_len.1 c.loop-i-test.true c.row_of.ensures ((told c).0 same)

-- It is not.
none_more : (c : After-eq) → c.eq.result ≡ false → Counted c.args.rows.now c.args.kinds.now 1 c.args.counts.now c.loop-i.found (c.loop-i.i + 1)
none_more c other =
    counted_other c.loop-i.invariant c.requires.in_order c.requires.rows_len.1 c.loop-i-test.true c.row_of.ensures (told_not (told c) other)

pub overflow_add-found : goal.overflow_add-found
overflow_add-found c =
    record { fits = counted_room (one_more (goal.at.overflow_add-found c).After-eq c.if-eq.true) c.requires.in_order (omega arith) }

pub loop-i-preserved : goal.loop-i-preserved
loop-i-preserved c = elim c.if-eq.branch [ then-eq w ↦ rw w.found-is (one_more (goal.at.loop-i-preserved c).After-eq w.if-eq.true) | else-eq w ↦ rw w.found-is (none_more (goal.at.loop-i-preserved c).After-eq w.if-eq.false) ]
