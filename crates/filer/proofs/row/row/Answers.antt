-- A check that is clear puts the row inside the table; one that refuses leaves an empty part.
use native.Mathlib.Omega.{arith}
use Prim.Native.Nat.{◌+◌, ◌*◌, ◌≤◌}
use mathlib.Core.Path.{◌≡◌, sym}
use lib.ListN.{length}
use Rattle.model.specs.Refusal.{clear}
use Rattle.model.specs.Answer.{row_check_of}
use Rattle.filer.proofs.Rows.{Whole, row_inside, whole, part_is, row_none}
use Rattle.filer.proofs.row.row.Goals as goal
use Rattle.filer.proofs.row.row.Goals.{In-Ok}

found_clear : (c : In-Ok) → row_check_of c.args.kinds c.args.kind c.args.table.now ≡ clear
found_clear c = sym c.in-Ok.ensures

told : (c : In-Ok) → Whole c.args.kinds c.args.kind (length c.args.table.now)
told c = whole _ _ _ (found_clear c)

inside : (c : In-Ok) → c.args.kind * c.args.kinds + c.args.kinds ≤ length c.args.table.now
inside c =
    let args = c.args in
    row_inside args.kinds args.kind args.table.now (told c)

pub overflow_mul-start : goal.overflow_mul-start
overflow_mul-start c = omega (arith, inside (goal.at.overflow_mul-start c).In-Ok, (told (goal.at.overflow_mul-start c).In-Ok).kind, (told (goal.at.overflow_mul-start c).In-Ok).few)

pub overflow_add-end : goal.overflow_add-end
overflow_add-end c = omega (arith, inside (goal.at.overflow_add-end c).In-Ok, (told (goal.at.overflow_add-end c).In-Ok).kind, (told (goal.at.overflow_add-end c).In-Ok).few)

pub offset_bounds-table-start : goal.offset_bounds-table-start
offset_bounds-table-start c = omega (arith, inside (goal.at.offset_bounds-table-start c).In-Ok, (told (goal.at.offset_bounds-table-start c).In-Ok).kind, (told (goal.at.offset_bounds-table-start c).In-Ok).few)

pub slice_bounds-result-end : goal.slice_bounds-result-end
slice_bounds-result-end c = omega (arith, inside (goal.at.slice_bounds-result-end c).In-Ok)

pub returns-in-Ok : goal.returns-in-Ok
returns-in-Ok c = part_is _ _ _ (found_clear (goal.at.returns-in-Ok c).In-Ok)

pub returns-in-Err : goal.returns-in-Err
returns-in-Err c = row_none _ _ _ _ _ (sym c.in-Err.ensures)
