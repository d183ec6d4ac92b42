-- The text of the call's answer.
use Rattle.std.specs.Prelude.{List, ◌++◌, ℕ, replicate}
use Rattle.model.specs.Sheet.{kind_count}
use Rattle.model.specs.Answer.{Answer, squads_of}
use Rattle.model.specs.Page.{bytes, number, newline, counts_of}
use Rattle.text.specs.Lengths.{letters, most_labelled_counts}
use Rattle.replies.specs.Texts.{lent_text}

-- The room that is lent: a remainder on any card.
unfoldable pub remainder_room : List ℕ
remainder_room = replicate 32 0

-- The most bytes of `squads Q = COUNTS`, by the number of its counts.
abbrev pub most_squads : ℕ → ℕ
most_squads n = most_labelled_counts (letters "squads ") n

-- squads WHOLE SQUAD: `squads Q = COUNTS`.
unfoldable pub squads_line : ℕ → List ℕ → List ℕ
squads_line count remainder = bytes "squads " ++ number count ++ bytes " " ++ counts_of remainder ++ newline

unfoldable pub squads_text : List ℕ → ℕ → ℕ → Answer (List ℕ)
squads_text s i j = lent_text squads_line (kind_count s) (squads_of s i j remainder_room)
