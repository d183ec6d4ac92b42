-- The product is bounded by the limits on kinds and lines.
use native.Mathlib.Omega.{arith}
use mathlib.Core.Path.{refl}
use Rattle.sheet.proofs.Laws.{line_start_small}
use Rattle.sheet.proofs.reader.Card.line_start.Goals as goal

pub overflow_mul-result : goal.overflow_mul-result
overflow_mul-result c = omega (arith, line_start_small c.args.self.kinds c.args.line c.requires.0 c.requires.1)

pub overflow_add-result-2 : goal.overflow_add-result-2
overflow_add-result-2 c = omega (arith, line_start_small c.args.self.kinds c.args.line c.requires.0 c.requires.1)

pub returns : goal.returns
returns c = (refl, omega (arith, line_start_small c.args.self.kinds c.args.line c.requires.0 c.requires.1))
