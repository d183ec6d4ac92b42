-- How long the lines of kinds and fields get, from what they are made up of: the most bytes of each, by the number of its counts.
use Rattle.std.specs.Prelude.{ℕ, ◌+◌}
use Rattle.text.specs.Lengths.{letters, most_digits, most_counts, most_labelled_counts}

-- `kinds N stages S`.
abbrev pub most_head : ℕ
most_head = letters "kinds " + most_digits + letters " stages " + most_digits + letters "\n"

-- ` norm W since S prime`, ` norm W since S = COUNTS` or ` out`: one number serves all three, with room for the words and the counts.
abbrev pub most_words : ℕ → ℕ
most_words n = letters " norm " + most_digits + letters " since " + most_digits + letters " " + letters "prime" + most_counts n

-- `kind K`, those words, and the end of the line.
abbrev pub most_kind_line : ℕ → ℕ
most_kind_line n = letters "kind " + most_digits + most_words n + letters "\n"

-- `field I = COUNTS`.
abbrev pub most_field_line : ℕ → ℕ
most_field_line n = most_labelled_counts (letters "field ") n
