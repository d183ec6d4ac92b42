-- Both products are bounded by the limits.
use native.Mathlib.Omega.{arith}
use Rattle.sheet.proofs.Laws.{line_start_small, field_start_small}
use Rattle.sheet.proofs.reader.Card.field_start.Goals as goal

pub overflow_mul-result-2 : goal.overflow_mul-result-2
overflow_mul-result-2 c =
    let args = c.args in
    omega (arith, field_start_small args.self.kinds args.field c.requires.0 c.requires.2)

pub overflow_add-result : goal.overflow_add-result
overflow_add-result c =
    let args = c.args in
    omega (arith, field_start_small args.self.kinds args.field c.requires.0 c.requires.2)

pub returns : goal.returns
returns c =
    let args = c.args in (
      omega (arith, c.line_start.ensures.0),
      omega (arith, c.line_start.ensures.0, line_start_small args.self.kinds args.self.lines c.requires.0 c.requires.1, field_start_small args.self.kinds args.field c.requires.0 c.requires.2),
    )
