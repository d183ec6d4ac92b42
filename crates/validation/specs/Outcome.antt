-- What the checks 1 to 8 come to.
use Rattle.std.specs.Prelude.{List, ℕ}
use Rattle.model.specs.Refusal.{Finding, clear, refusal, first_of, sheet_checks}
use Rattle.model.specs.Answer.{Answer, refused, given}
use Rattle.sheet.specs.Reader.{header_of}
use Rattle.sheet.specs.declared.reader.Card.{Card}

-- The card where the checks find nothing, else the refusal with its number and place.
unfoldable pub outcome : Card → Finding → Answer Card
outcome c clear = given c
outcome c (refusal k p) = refused k p

-- The card, or the first of 1 to 8 that applies.
unfoldable pub checked_of : List ℕ → Answer Card
checked_of s = outcome (header_of s) (first_of (sheet_checks s))
