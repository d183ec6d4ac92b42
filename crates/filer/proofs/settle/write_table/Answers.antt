use native.Mathlib.Nat.{mul-le-mul_right, suc-mul}
use native.Mathlib.Numerals.{add-one}
use native.Mathlib.Omega.{arith}
use mathlib.Core.Path.{◌≡◌, ◌∙◌}
use Prim.Native.Nat.{◌+◌, ◌*◌, ◌≤◌}
use lib.ListN.{length}
use Rattle.filer.proofs.Rows.{square_most}
use Rattle.theory.proofs.Writing.{begun_none, begun_length, begun_all}
use Rattle.filer.proofs.Writing.{table_long, row_fits, part_long, row_long, row_written, begun_part}
use Rattle.filer.proofs.Settlements.{copied}
use Rattle.filer.proofs.settle.write_table.Goals as goal
use Rattle.filer.proofs.settle.write_table.Goals.{In-loop-row}

-- The row of this turn lies in the table.
fits : (c : In-loop-row) → c.loop-row.row * c.args.kinds + c.args.kinds ≤ 1024
fits c =
    omega (arith, row_fits c.args.kinds c.loop-row.row c.args.rows.now c.loop-row-test.true, square_most c.args.kinds c.requires.rows_len.1)

place_fits : (c : In-loop-row)
    → c.loop-row.row * c.args.kinds + c.args.kinds ≤ length c.loop-row.table
place_fits c =
    omega (arith, row_fits c.args.kinds c.loop-row.row c.args.rows.now c.loop-row-test.true, c.requires.kinds_in_bounds, begun_length c.loop-row.invariant)

pub loop-row-init : goal.loop-row-init
loop-row-init c =
    let args = c.args in
    let z : 0 * args.kinds ≡ 0 = omega arith in
    rw z (begun_none _ _ (omega (arith, table_long args.kinds args.rows.now, c.requires.kinds_in_bounds)))

pub overflow_mul-place : goal.overflow_mul-place
overflow_mul-place c = omega (arith, fits (goal.at.overflow_mul-place c).In-loop-row)

pub overflow_add-place : goal.overflow_add-place
overflow_add-place c = omega (arith, fits (goal.at.overflow_add-place c).In-loop-row)

pub offset_bounds-table-place : goal.offset_bounds-table-place
offset_bounds-table-place c = omega (arith, fits (goal.at.offset_bounds-table-place c).In-loop-row)

pub slice_bounds-write-end-in-loop-row : goal.slice_bounds-write-end-in-loop-row
slice_bounds-write-end-in-loop-row c = omega (arith, place_fits (goal.at.slice_bounds-write-end-in-loop-row c).In-loop-row)

pub write-requires : goal.write-requires
write-requires c =
    let n = c.args.kinds in
    let row = c.loop-row.row in
    omega (arith, row_long n row c.args.rows.now c.loop-row-test.true c.requires.rows_len.1 c.requires.rows_len.0, part_long c.loop-row.table (row * n) n (place_fits (goal.at.write-requires c).In-loop-row))

pub loop-row-preserved : goal.loop-row-preserved
loop-row-preserved c =
    let n = c.args.kinds in
    let rows = c.args.rows.now in
    let row = c.loop-row.row in
    let k = c.loop-row-test.true in
    let next : (row + 1) * n ≡ row * n + n = rw add-one (suc-mul row n) in
    let part_is = copied _ _ _ c.write.ensures ∙ row_written n row rows k c.requires.rows_len.1 c.requires.rows_len.0 _ (part_long c.loop-row.table (row * n) n (place_fits (goal.at.loop-row-preserved c).In-loop-row)) in
    rw next (begun_part c.loop-row.invariant n (omega (arith, table_long n rows, row_fits n row rows k)) _ part_is)

pub shape_of-table : goal.shape_of-table
shape_of-table c = begun_length c.loop-row.invariant

pub returns : goal.returns
returns c =
    let args = c.args in
    begun_all c.loop-row.invariant (omega (arith, table_long args.kinds args.rows.now, mul-le-mul_right args.kinds c.loop-row-test.false))
