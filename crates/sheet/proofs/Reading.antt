-- The places that the functions compute are those of the definitions.
use mathlib.Core.List.{List}
use mathlib.Core.Path.{◌≡◌, refl}
use Prim.Native.Nat.{ℕ, ◌+◌, ◌*◌, ◌-◌, ◌<◌}
use native.Mathlib.Nat.{add-sub_cancel_left}
use lib.ListN.{take, drop}
use Rattle.model.specs.Finite.{list_from}
use Rattle.model.specs.Limits.{most_kinds}
use Rattle.model.specs.Sheet.{lines_offset, byte, u16_at, kind_count, fields_offset, total_of, counts, line_of, field_of}
use Rattle.sheet.specs.declared.reader.Card.{Card}
use Rattle.sheet.specs.Reader.{header_of, Reads, line_counts, field_counts}
use Rattle.sheet.proofs.Counts.{part_counts}
use Rattle.sheet.proofs.Laws.{kinds_are, lines_are, line_inside}

-- Four numbers that are the header's make its card.
pub header_read : (s : List ℕ) (n m k f : ℕ) → n ≡ u16_at s 0 → m ≡ u16_at s 2 → k ≡ u16_at s 4 → f ≡ u16_at s 6
    → ◌≡◌ {A = Card} (record { kinds = n; codes = m; lines = k; fields = f }) (header_of s)
header_read s n m k f p q r t = rw (p, q, r, t) refl

-- Places by the numbers of a card that is the header's: where the fields start, and the total.
module _ (s : List ℕ) (c : Card) (h : c ≡ header_of s) where
  pub fields_offset_read : (p : ℕ) → p ≡ lines_offset + c.lines * (2 + c.kinds) → p ≡ fields_offset s
  unfolding fields_offset
  fields_offset_read p e = rw (e, h) refl

  pub total_read : (p : ℕ) → p ≡ lines_offset + c.lines * (2 + c.kinds) + 2 * c.kinds * c.fields → p ≡ total_of s
  unfolding total_of fields_offset
  total_read p e = rw (e, h) refl

  -- The byte where line j starts, and the next one.
  pub kind_read : (j p v : ℕ) → p ≡ lines_offset + j * (2 + c.kinds) → v ≡ byte s p → v ≡ (line_of s j).kind
  unfolding line_of
  kind_read j p v e d = rw (d, e, h) refl

  pub code_read : (j p v : ℕ) → p ≡ lines_offset + j * (2 + c.kinds) → v ≡ byte s (p + 1) → v ≡ (line_of s j).code
  unfolding line_of
  code_read j p v e d = rw (d, e, h) refl

-- The part that starts two bytes into line j.
pub counts_read : {s : List ℕ} {c : Card} (R : Reads s c) (j p : ℕ) → p ≡ lines_offset + j * (2 + c.kinds) → j < c.lines
    → take (p + 2 + c.kinds - (p + 2)) (drop (p + 2) s) ≡ line_counts s j
unfolding line_counts line_of
counts_read {s} R j p e h =
    rw (e, add-sub_cancel_left, kinds_are R)
    (part_counts s (lines_offset + j * (2 + kind_count s) + 2) (kind_count s) (rw (kinds_are R) at (line_inside R j h)))

-- The field whose counts were read from its start on.
pub field_read : {s : List ℕ} {c : Card} → Reads s c → (i p : ℕ) (g : List ℕ) → p ≡ lines_offset + c.lines * (2 + c.kinds) + 2 * c.kinds * i
    → g ≡ list_from (counts c.kinds (λ k. u16_at s (p + 2 * k))) 0 most_kinds → g ≡ field_counts s i
unfolding field_counts field_of fields_offset
field_read R i p g e d = rw (d, e, kinds_are R, lines_are R) refl
