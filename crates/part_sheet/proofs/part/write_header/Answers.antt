-- The header is copied, and three of its numbers are written over.
use borrow.Author.Rules.{rules}
use mathlib.Core.Path.{refl}
use native.Mathlib.Omega.{arith}
use Rattle.sheet.proofs.Laws.{limits, kinds_most, lines_most, fields_most}
use Rattle.part_sheet.proofs.Headers.{header_set}
use Rattle.part_sheet.proofs.part.write_header.Goals as goal

pub copy_bytes-requires : goal.copy_bytes-requires
copy_bytes-requires c =
    ((limits c.requires.reads).bytes, search rules)

pub write_number-requires : goal.write_number-requires
write_number-requires c =
    (omega (arith, lines_most c.requires.reads), omega (arith, c.copy_bytes.ensures.long))

pub line_start-requires : goal.line_start-requires
line_start-requires c =
    (kinds_most c.requires.reads, omega (arith, lines_most c.requires.reads))

pub field_start-requires : goal.field_start-requires
field_start-requires c =
    (kinds_most c.requires.reads, omega (arith, lines_most c.requires.reads), fields_most c.requires.reads)

pub returns : goal.returns
returns c = record { value = refl; header_set = header_set c.requires.reads c.args.lines c.line_start.ensures.0 c.field_start.ensures.0 c.copy_bytes.ensures c.write_number.ensures c.write_number-2.ensures c.write_number-3.ensures }
