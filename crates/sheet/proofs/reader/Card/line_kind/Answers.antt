-- The kind stands where the line starts.
use native.Mathlib.Omega.{arith}
use Rattle.sheet.proofs.Laws.{kinds_most, lines_most}
use Rattle.sheet.proofs.Reading.{kind_read}
use Rattle.sheet.proofs.reader.Card.line_kind.Goals as goal

pub line_start-requires : goal.line_start-requires
line_start-requires c = (kinds_most c.requires.reads, omega (arith, lines_most c.requires.reads))

pub returns : goal.returns
returns c = kind_read _ _ c.requires.reads.header _ _ _ c.line_start.ensures.0 c.byte_at.ensures.0
