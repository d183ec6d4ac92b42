-- The lines, the header and the fields that are written are the part.
use mathlib.Core.Path.{ap}
use native.Mathlib.Omega.{arith}
use Rattle.sheet.specs.declared.reader.Card.{Card}
use Rattle.sheet.proofs.Laws.{limits, lines_are, kinds_most, lines_most, fields_most, field_start_small}
use Rattle.part_sheet.proofs.Sheets.{sheet_whole, part_fits, part_room, part_written}
use Rattle.part_sheet.proofs.part.write_part.Goals as goal

pub write_header-taken-requires : goal.write_header-taken-requires
write_header-taken-requires c =
    let R = c.requires.accepts.reads in
    record { reads = R; lines_le_lines = (omega (arith, c.copy_lines-lines.ensures.few, lines_are R), omega (arith, (limits R).bytes, c.requires.sheet_in_bounds, c.copy_lines-lines.ensures.long)) }

pub overflow_mul-size : goal.overflow_mul-size
overflow_mul-size c =
    omega (arith, kinds_most c.requires.accepts.reads)

pub overflow_mul-size-2 : goal.overflow_mul-size-2
overflow_mul-size-2 c =
    let R = c.requires.accepts.reads in
    omega (arith, field_start_small _ _ (kinds_most R) (fields_most R))

pub line_start-requires : goal.line_start-requires
line_start-requires c =
    let R = c.requires.accepts.reads in
    (kinds_most R, omega (arith, lines_most R, c.copy_lines-lines.ensures.few, lines_are R))

pub line_start-requires-2 : goal.line_start-requires-2
line_start-requires-2 c =
    let R = c.requires.accepts.reads in
    let taken = c.write_header-taken.ensures.value in
    (omega (arith, ap (λ (d : Card). d.kinds) taken, kinds_most R), omega (arith, c.copy_lines-lines.ensures.few, lines_are R, lines_most R))

pub copy_bytes-requires : goal.copy_bytes-requires
copy_bytes-requires c =
    let R = c.requires.accepts.reads in
    let room = part_room R (omega (arith, c.copy_lines-lines.ensures.few, lines_are R)) c.write_header-taken.ensures.value in (
      omega (arith, c.line_start.ensures.0, sheet_whole R, part_fits R c.copy_lines-lines.result (omega (arith, c.copy_lines-lines.ensures.few, lines_are R))),
      omega (arith, c.line_start-2.ensures.0, sheet_whole R, room, c.requires.sheet_in_bounds, c.copy_lines-lines.ensures.long, c.write_header-taken.ensures.header_set.long),
    )

pub returns : goal.returns
returns c =
    let R = c.requires.accepts.reads in
    part_written R c.requires.sheet_in_bounds c.copy_lines-lines.ensures c.write_header-taken.ensures.value c.write_header-taken.ensures.header_set c.line_start.ensures.0 c.line_start-2.ensures.0 c.copy_bytes.ensures
