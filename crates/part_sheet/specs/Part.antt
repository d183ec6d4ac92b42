-- Lines and a header as they stand in a buffer, and the sheet of a card's reached part.
use Rattle.std.specs.Prelude.{List, ◌≡◌, ℕ, ◌+◌, ◌*◌, ◌≤◌, length, take}
use Rattle.model.specs.Finite.{list_from}
use Rattle.model.specs.Card.{Line, reached_lines}
use Rattle.model.specs.Plain.{HeaderRead}
use Rattle.model.specs.Sheet.{lines_offset, byte, kind_count, line_count, counts, card_of}
use Rattle.theory.specs.Meanings.{part}
use Rattle.sheet.specs.Reader.{Reads}
use Rattle.sheet.specs.declared.reader.Card.{Card}

-- Line j as it stands in bytes that have n counts to a line, whatever their header is.
unfoldable pub line_in : ℕ → List ℕ → ℕ → Line
line_in n s j =
    let p = lines_offset + j * (2 + n) in
    record { kind = byte s p; code = byte s (p + 1); left = counts n (λ k. byte s (p + 2 + k)) }

-- The first m lines that stand in q, which is as long as p, are the lines of the reached kinds of the sheet.
pub record LinesTaken (s p : List ℕ) (m : ℕ) (q : List ℕ) : Type 0 where
  pub long : length q ≡ length p
  pub few : m ≤ line_count s
  pub lines : list_from (line_in (kind_count s) q) 0 m ≡ reached_lines (card_of s)

-- The header's numbers, with another number of lines.
abbrev pub with_lines : Card → ℕ → Card
with_lines c m = record { kinds = c.kinds; codes = c.codes; lines = m; fields = c.fields }

-- q is p, but for its header, which is that of a sheet with these numbers.
pub record HeaderSet (c : Card) (p q : List ℕ) : Type 0 where
  pub long : length q ≡ length p
  pub header : HeaderRead c.kinds c.codes c.lines c.fields q
  pub past : (i : ℕ) → lines_offset ≤ i → byte q i ≡ byte p i

-- The bytes of a sheet with the header's numbers.
abbrev pub size_of : Card → ℕ
size_of c = lines_offset + c.lines * (2 + c.kinds) + 2 * c.kinds * c.fields

-- t begins with a sheet to which none of 1 to 8 applies, whose header's numbers are c: its card is the reached part of the card of s.
pub record IsPart (s : List ℕ) (c : Card) (t : List ℕ) : Type 0 where
  pub room : size_of c ≤ length t
  pub reads : Reads (take (size_of c) t) c
  pub card_is : card_of (take (size_of c) t) ≡ part (card_of s)
