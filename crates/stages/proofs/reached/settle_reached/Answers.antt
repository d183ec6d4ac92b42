-- The part is an accepted sheet with the same norms, and it settles to what the sheet does.
use Rattle.sheet.proofs.Laws.{kinds_most, lines_most, fields_most}
use Rattle.tables.specs.Senses.{sense_of}
use Rattle.part_sheet.proofs.Sheets.{sheet_longest}
use Rattle.part_sheet.proofs.Laws.{part_accepts}
use Rattle.stages.proofs.Parts.{part_settled}
use Rattle.stages.proofs.reached.settle_reached.Goals as goal

pub write_part-part-requires-clause-sheet_in_bounds : goal.write_part-part-requires-clause-sheet_in_bounds
write_part-part-requires-clause-sheet_in_bounds c = sheet_longest c.requires.reads

pub field_start-size-requires : goal.field_start-size-requires
field_start-size-requires c =
    let R = c.write_part-part.ensures.reads in
    (kinds_most R, lines_most R, fields_most R)

pub settle-requires : goal.settle-requires
settle-requires c =
    part_accepts c.write_part-part.ensures c.requires c.field_start-size.ensures.0

pub returns : goal.returns
returns c =
    part_settled (sense_of c.args.sense) c.requires.reads.passed c.write_part-part.ensures c.field_start-size.ensures.0 c.settle.ensures
