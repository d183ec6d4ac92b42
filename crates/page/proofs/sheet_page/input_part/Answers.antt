-- `input_part`: all bytes where they are few, the first ones otherwise.
use mathlib.Core.Path.{sym}
use native.Mathlib.Omega.{arith}
use lib.Seq.{take_all, length-take-le}
use Rattle.model.specs.Limits.{most_input}
use Rattle.page.proofs.sheet_page.input_part.Goals as goal

pub returns-then-sheet-lt-INPUT : goal.returns-then-sheet-lt-INPUT
returns-then-sheet-lt-INPUT c = sym (take_all most_input c.args.sheet.now (omega arith))

pub slice_bounds-result-end : goal.slice_bounds-result-end
slice_bounds-result-end c = sym (length-take-le _ c.args.sheet.now (omega arith))
