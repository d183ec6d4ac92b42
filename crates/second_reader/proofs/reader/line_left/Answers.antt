-- Then stand the counts.
use mathlib.Core.Path.{◌∙◌}
use Rattle.second_reader.proofs.Counts.{left_at}
use Rattle.second_reader.proofs.reader.line_left.Goals as goal

pub returns : goal.returns
returns c = (c.byte_at.ensures.0 ∙ left_at c.args.sheet.now c.args.line c.args.kind c.line_start.result c.line_start.ensures.0 c.requires.2, c.byte_at.ensures.1)
