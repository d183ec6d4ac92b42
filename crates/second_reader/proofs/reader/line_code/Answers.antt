-- The code stands next.
use mathlib.Core.Path.{◌∙◌}
use Rattle.second_reader.proofs.Counts.{code_at}
use Rattle.second_reader.proofs.reader.line_code.Goals as goal

pub returns : goal.returns
returns c = c.byte_at.ensures.0 ∙ code_at c.args.sheet.now c.args.line c.line_start.result c.line_start.ensures.0
