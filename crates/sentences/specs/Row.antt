-- What a row of the code says.
use Rattle.std.specs.Prelude.{List, Option, Some, None, ℕ}
use Rattle.std.specs.List.{find}
use Rattle.sentences.specs.declared.table.Row.{Row}
use Rattle.sentences.specs.Sentence.{Sentence, unsaid, has}

-- The row of the table that it stands for.
abbrev pub sentence : Row → Sentence
sentence r = record { number = r.number; places = r.places; words = r.words.now }

-- The first row that has a number and a place.
unfoldable pub first_row : ℕ → ℕ → List Row → Option Row
first_row k p rows = find (λ r. has k p (sentence r)) rows

-- What is said by a row, or by none.
abbrev pub said : Option Row → Sentence
said (Some r) = sentence r
said None = unsaid
