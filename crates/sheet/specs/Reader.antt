-- What the reader gives: the header's numbers as the struct, a card that was read, and the counts of lines and fields as lists.
use Rattle.std.specs.Prelude.{List, ◌≡◌, ℕ, take, drop}
use Rattle.model.specs.Finite.{list_from}
use Rattle.model.specs.Limits.{most_kinds}
use Rattle.model.specs.Sheet.{kind_count, code_count, line_count, field_count, line_of, field_of}
use Rattle.model.specs.Refusal.{Check, clear, first_of, header_checks, sheet_checks}
use Rattle.sheet.specs.declared.reader.Card.{Card}

-- The header's numbers as the struct: "kinds n", "codes", "lines m", "fields f".
abbrev pub header_of : List ℕ → Card
header_of s = record { kinds = kind_count s; codes = code_count s; lines = line_count s; fields = field_count s }

-- The card was read from these bytes, to which none of 1 to 8 applies.
pub record Reads (s : List ℕ) (c : Card) : Type 0 where
  pub header : c ≡ header_of s
  pub passed : first_of (sheet_checks s) ≡ clear

-- The header's checks in two parts: 1 to 5, of its numbers, and 6, of its layout.
abbrev pub number_checks : List ℕ → List Check
number_checks s = take 5 (header_checks s)

abbrev pub layout_checks : List ℕ → List Check
layout_checks s = drop 5 (header_checks s)

-- A line's counts: "then n count bytes: the tokens left behind".
unfoldable pub line_counts : List ℕ → ℕ → List ℕ
line_counts s j = list_from (line_of s j).left 0 (kind_count s)

-- A field's counts, as many as a card may have kinds: "A field is n counts of two bytes", 0 past them.
unfoldable pub field_counts : List ℕ → ℕ → List ℕ
field_counts s i = list_from (field_of s i) 0 most_kinds
