-- The part lies inside the sheet, and is the line's counts.
use native.Mathlib.Omega.{arith}
use Rattle.sheet.proofs.Laws.{kinds_most, lines_most, line_inside}
use Rattle.sheet.proofs.Reading.{counts_read}
use Rattle.sheet.proofs.reader.Card.line_counts.Goals as goal

pub line_start-start-requires : goal.line_start-start-requires
line_start-start-requires c = (kinds_most c.requires.reads, omega (arith, lines_most c.requires.reads))

pub overflow_add-end : goal.overflow_add-end
overflow_add-end c = omega (arith, kinds_most c.requires.reads)

pub slice_bounds-result-end : goal.slice_bounds-result-end
slice_bounds-result-end c = omega (arith, line_inside c.requires.reads c.args.line c.requires.line_lt_lines, c.line_start-start.ensures.0)

pub returns : goal.returns
returns c =
    counts_read c.requires.reads c.args.line _ c.line_start-start.ensures.0 c.requires.line_lt_lines
