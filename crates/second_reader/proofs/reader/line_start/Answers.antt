-- At most 32 kinds and 65,535 lines are read.
use native.Mathlib.Omega.{arith}
use mathlib.Core.Path.{ap}
use Prim.Native.Nat.{ℕ, ◌+◌, ◌*◌}
use Rattle.model.specs.Sheet.{lines_offset}
use Rattle.second_reader.proofs.Counts.{product_most}
use Rattle.second_reader.proofs.reader.line_start.Goals as goal

pub overflow_mul-result : goal.overflow_mul-result
overflow_mul-result c = omega (arith, product_most c.args.line (2 + c.kinds.result) 65535 34 (omega arith) (omega arith))

pub overflow_add-result-2 : goal.overflow_add-result-2
overflow_add-result-2 c = omega (arith, product_most c.args.line (2 + c.kinds.result) 65535 34 (omega arith) (omega arith))

pub returns : goal.returns
returns c = (ap (λ (n : ℕ). lines_offset + c.args.line * (2 + n)) c.kinds.ensures.0, omega (arith, product_most c.args.line (2 + c.kinds.result) 65535 34 (omega arith) (omega arith)))
