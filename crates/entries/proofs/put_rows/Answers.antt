use mathlib.Core.Path.{sym, ◌∙◌}
use Prim.Native.Nat.{◌+◌}
use native.Mathlib.Omega.{arith}
use Rattle.text.proofs.Sequence.{no_text, next_text}
use Rattle.entries.specs.Table.{row_text}
use Rattle.entries.proofs.Rows.{seventeen}
use Rattle.entries.proofs.Lines.{row_lines_lem, rows_all}
use Rattle.entries.proofs.put_rows.Goals as goal

pub slice_bounds-put_row-end : goal.slice_bounds-put_row-end
slice_bounds-put_row-end c = sym (seventeen 0 c.first_row-row.ensures)

pub put_row-next-requires : goal.put_row-next-requires
put_row-next-requires c = omega (arith, seventeen 0 c.first_row-row.ensures)

pub loop-init : goal.loop-init
loop-init c =
    (c.first_row-row.ensures, no_text row_text 442 1 c.put_row-next.new.out c.put_row-next.result)

pub next_row-requires : goal.next_row-requires
next_row-requires c = let loop = c.loop in (loop.counter, omega arith, loop.invariant.0)

pub slice_bounds-put_row-end-in-loop : goal.slice_bounds-put_row-end-in-loop
slice_bounds-put_row-end-in-loop c =
    let loop = c.loop in
    sym (seventeen (loop.counter + 1) (c.next_row.ensures loop.counter loop.invariant.0))

pub put_row-next-requires-in-loop : goal.put_row-next-requires-in-loop
put_row-next-requires-in-loop c =
    let row = c.next_row.ensures c.loop.counter c.loop.invariant.0 in
    let others = c.loop.invariant.1 in
    omega (arith, seventeen 0 c.first_row-row.ensures, seventeen (c.loop.counter + 1) row, c.put_row-next.ensures.ends, c.put_row-next.ensures.size, c.put_row-next.ensures.within, others.ends, others.size, others.within)

pub loop-preserved : goal.loop-preserved
loop-preserved c =
    let row = c.next_row.ensures c.loop.counter c.loop.invariant.0 in
    (row, next_text row_text 1 c.loop.counter c.loop.invariant.1 (row_lines_lem (c.loop.counter + 1) row c.put_row-next-in-loop.ensures) (omega arith))

pub shape_of-out : goal.shape_of-out
shape_of-out c =
    let put-row = c.put_row-next in
    c.loop.invariant.1.size ∙ put-row.ensures.size

pub returns : goal.returns
returns c =
    rows_all (omega arith) (row_lines_lem 0 c.first_row-row.ensures c.put_row-next.ensures) c.loop.invariant.1
