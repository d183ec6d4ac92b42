-- The row of the next position is copied, and the line comes to its own code.
use native.Mathlib.Omega.{arith}
use Prim.Native.Nat.{◌<◌}
use lib.ListN.{length-set}
use Rattle.model.specs.Limits.{most_codes, most_lines}
use Rattle.sheet.proofs.Laws.{lines_are, lines_most}
use Rattle.moves.proofs.Following.{follows_line}
use Rattle.moves.proofs.follow.line_row.Goals as goal
use Rattle.moves.proofs.follow.line_row.Goals.{After-copy_row}

pub copy_row-requires : goal.copy_row-requires
copy_row-requires c = let p = c.requires.reads in (p.1.long, omega (arith, lines_most p.0))

pub overflow_cast-table : goal.overflow_cast-table
overflow_cast-table c = omega (arith, lines_most c.requires.reads.0)

-- The line and its code are below the limits.
inside : (c : After-copy_row) → (c.args.line < most_lines) × (c.row_entry-code.result < most_codes)
inside c = (omega (arith, lines_most c.requires.reads.0), c.row_entry-code.ensures.1)

pub overflow_mul-table : goal.overflow_mul-table
overflow_mul-table c = omega (arith, inside (goal.at.overflow_mul-table c).After-copy_row)

pub overflow_add-table : goal.overflow_add-table
overflow_add-table c = omega (arith, inside (goal.at.overflow_add-table c).After-copy_row)

pub offset_bounds-table-line : goal.offset_bounds-table-line
offset_bounds-table-line c = omega (arith, inside (goal.at.offset_bounds-table-line c).After-copy_row)

pub bounds-table-line : goal.bounds-table-line
bounds-table-line c = omega (arith, inside (goal.at.bounds-table-line c).After-copy_row, c.copy_row.auto.table, c.requires.reads.1.long)

pub shape_of-table : goal.shape_of-table
shape_of-table c = simp length-set c.copy_row.auto.table

pub returns : goal.returns
returns c =
    let p = c.requires.reads in
    let i = inside (goal.at.returns c).After-copy_row in
    follows_line p.1 (omega (arith, lines_are p.0)) i.0 c.row_entry-code.ensures.0 i.1 c.copy_row.auto.table c.copy_row.ensures
