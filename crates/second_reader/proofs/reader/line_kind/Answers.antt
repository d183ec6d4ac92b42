-- The kind stands where the line starts.
use mathlib.Core.Path.{◌∙◌}
use Rattle.second_reader.proofs.Counts.{kind_at}
use Rattle.second_reader.proofs.reader.line_kind.Goals as goal

pub returns : goal.returns
returns c = c.byte_at.ensures.0 ∙ kind_at c.args.sheet.now c.args.line c.line_start.result c.line_start.ensures.0
