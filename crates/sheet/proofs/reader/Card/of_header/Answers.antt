-- Each number is the header's.
use Rattle.sheet.proofs.Reading.{header_read}
use Rattle.sheet.proofs.reader.Card.of_header.Goals as goal

pub returns : goal.returns
returns c =
    header_read c.args.sheet.now _ _ _ _ c.u16_at.ensures.0 c.u16_at-2.ensures.0 c.u16_at-3.ensures.0
    c.u16_at-4.ensures.0
