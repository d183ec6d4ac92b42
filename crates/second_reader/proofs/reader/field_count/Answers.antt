-- At most 32 kinds and 65,535 fields are read.
use native.Mathlib.Omega.{arith}
use Prim.Native.Nat.{◌*◌, ◌≤◌}
use mathlib.Core.Path.{◌∙◌}
use Rattle.second_reader.proofs.Counts.{product_most, field_at}
use Rattle.second_reader.proofs.reader.field_count.Goals as goal
use Rattle.second_reader.proofs.reader.field_count.Goals.{After-kinds}

-- The bytes of the fields before this one are few.
product_small : (c : After-kinds) → 2 * c.kinds.result * c.args.number ≤ 64 * 65535
product_small c = product_most (2 * c.kinds.result) c.args.number 64 65535 (omega arith) (omega arith)

pub overflow_mul-kinds-2 : goal.overflow_mul-kinds-2
overflow_mul-kinds-2 c = omega (arith, product_small (goal.at.overflow_mul-kinds-2 c).After-kinds)

pub overflow_add-line_start : goal.overflow_add-line_start
overflow_add-line_start c = omega (arith, product_small (goal.at.overflow_add-line_start c).After-kinds)

pub overflow_add-line_start-2 : goal.overflow_add-line_start-2
overflow_add-line_start-2 c = omega (arith, product_small (goal.at.overflow_add-line_start-2 c).After-kinds)

pub number_at-requires : goal.number_at-requires
number_at-requires c = omega (arith, product_small (goal.at.number_at-requires c).After-kinds)

pub returns : goal.returns
returns c =
    (c.number_at.ensures.0 ∙ field_at c.args.sheet.now c.args.number c.args.kind c.lines.result c.kinds.result c.line_start.result c.lines.ensures.0 c.kinds.ensures.0 c.line_start.ensures.0 c.requires.2, c.number_at.ensures.1)
