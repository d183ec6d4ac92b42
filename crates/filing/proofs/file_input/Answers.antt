-- `file_input`: what was read has the input's page.
use Rattle.filing.proofs.Printed.{page_read_if}
use Rattle.filing.proofs.file_input.Goals as goal

pub returns : goal.returns
returns g c =
    let read = c.in-Ok.ensures in
    page_read_if c.file.result _ _ c.read_sheet.new.sheet c.in-Ok.bytes _ _ read.given read.lies.0 c.read_sheet.array_long read.whole c.file.ensures
