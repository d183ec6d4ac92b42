-- The line that a walk answers: `apart R drawn D`, `together drawn D`, `spent drawn D` or `refused NUMBER PLACE`.
use Rattle.std.specs.Prelude.{List, ◌++◌, ℕ, ◌+◌}
use Rattle.model.specs.Page.{bytes, number, newline, refused_line}
use Rattle.model.specs.Walk.{WalkAnswer, apart, together, spent}
use Rattle.model.specs.Answer.{Answer, refused, given, Walked}
use Rattle.text.specs.Lengths.{letters, most_digits}

-- ` drawn D`, the end of every line but a refused one, and its most bytes.
abbrev pub most_drawn : ℕ
most_drawn = letters " drawn " + most_digits + letters "\n"

unfoldable pub drawn_text : ℕ → List ℕ
drawn_text drawn = bytes " drawn " ++ number drawn ++ newline

-- What the line starts with, by what was found.
unfoldable pub found_text : WalkAnswer → List ℕ
found_text (apart rounds) = bytes "apart " ++ number rounds
found_text together = bytes "together"
found_text spent = bytes "spent"

-- The line of an answer and of what was drawn.
unfoldable pub answer_line : Answer WalkAnswer → ℕ → List ℕ
answer_line (given found) drawn = found_text found ++ drawn_text drawn
answer_line (refused number place) drawn = refused_line number place

-- The most bytes of a line: none is longer than `apart R drawn D`.
abbrev pub most_walk : ℕ
most_walk = letters "apart " + most_digits + most_drawn

-- The line of a walk.
abbrev pub walk_line : Walked → List ℕ
walk_line w = answer_line w.answer w.drawn
