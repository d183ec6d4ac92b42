-- How long texts get, from what they are made up of: the most bytes of a number and of counts.
use Rattle.std.specs.Prelude.{ℕ, suc, ◌+◌, ◌*◌}
use Prim.Native.String.{String}

-- The bytes of a word: one for each letter.
abbrev pub letters : String → ℕ
letters String.[] = 0
letters (String.◌∷◌ x s) = suc (letters s)

-- The digits of a number of 64 bits.
abbrev pub most_digits : ℕ
most_digits = 20

-- A count with the space before it.
abbrev pub most_count : ℕ
most_count = letters " " + most_digits

-- So many counts, each with the space before it.
abbrev pub most_counts : ℕ → ℕ
most_counts n = most_count * n

-- A label of so many bytes, a number after it, and so many counts after "=", as a line: `field I = COUNTS`.
abbrev pub most_labelled_counts : ℕ → ℕ → ℕ
most_labelled_counts label n = label + (most_digits + letters " =" + letters "\n") + most_counts n
