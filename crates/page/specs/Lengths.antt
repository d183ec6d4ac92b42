-- How long the lines of a page get, and the page: the most bytes of each.
use Rattle.std.specs.Prelude.{ℕ, ◌+◌, ◌-◌, ◌*◌}
use Rattle.model.specs.Limits.{most_kinds, most_fields}
use Rattle.text.specs.Lengths.{letters, most_digits}
use Rattle.listing.specs.Lengths.{most_head, most_kind_line, most_field_line}

-- The line of a kind, with a count for every kind that a sheet may have.
abbrev pub most_kind : ℕ
most_kind = most_kind_line most_kinds

-- The line of a field, with a count for every kind that a sheet may have.
abbrev pub most_field : ℕ
most_field = most_field_line most_kinds

-- What a pair's line starts with: `pair 0 J `.
abbrev pub most_start : ℕ
most_start = letters "pair 0 " + most_digits + letters " "

-- What a pair's line ends with: no word of a verdict is longer than `different S R`.
abbrev pub most_word : ℕ
most_word = letters "different " + most_digits + letters " " + most_digits + letters "\n"

-- The line of a pair.
abbrev pub most_pair : ℕ
most_pair = most_start + most_word

-- The page: the head, a line for each kind and for each field, and one for each later field, which field 0 is paired with.
abbrev pub most_page : ℕ
most_page = most_head + most_kind * most_kinds + most_field * most_fields + most_pair * (most_fields - 1)
