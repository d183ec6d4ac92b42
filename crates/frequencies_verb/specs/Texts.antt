-- The text of the call's answer.
use Rattle.std.specs.Prelude.{List, ◌++◌, ℕ, ◌+◌, drop, replicate}
use Rattle.model.specs.Field.{at}
use Rattle.model.specs.Sheet.{kind_count}
use Rattle.model.specs.Answer.{Answer, frequencies_of}
use Rattle.model.specs.Page.{bytes, number}
use Rattle.text.specs.Count.{counts_line}
use Rattle.text.specs.Lengths.{letters, most_counts}
use Rattle.replies.specs.Texts.{lent_text}

-- The room that is lent: the frequencies on any card.
unfoldable pub frequencies_room : List ℕ
frequencies_room = replicate 34 0

-- The most bytes of `same A stages B0 B1 .. Bn`, by the number of its counts.
abbrev pub most_common : ℕ → ℕ
most_common n = letters "same" + letters " stages " + letters "\n" + most_counts n

-- common FIELD SIZE: `same A stages B0 B1 .. Bn`, the first of the counts and then the others.
unfoldable pub common_line : List ℕ → List ℕ
common_line counts = bytes "same " ++ number (at counts 0) ++ bytes " stages " ++ counts_line (drop 1 counts)

unfoldable pub common_text : List ℕ → ℕ → ℕ → Answer (List ℕ)
common_text s i t = lent_text (λ _ counts. common_line counts) (kind_count s + 2) (frequencies_of s i t frequencies_room)
