-- What a card that was read from a sheet tells of it.
use mathlib.Core.List.{List}
use mathlib.Core.Path.{◌≡◌, refl, sym, ◌∙◌, ap}
use Prim.Native.Nat.{ℕ, ◌+◌, ◌*◌, ◌≤◌, ◌<◌}
use native.Mathlib.Decide.{dec_lt}
use native.Mathlib.Nat.{mul-le-mul, mul-le-mul_right, le_refl, add-mul, one-mul}
use native.Mathlib.Omega.{arith}
use lib.ListN.{length}
use Rattle.model.specs.Finite.{list_from}
use Rattle.model.specs.Field.{at}
use Rattle.model.specs.Card.{Line, On}
use Rattle.model.specs.Limits.{most_kinds, most_codes, most_lines, most_fields}
use Rattle.model.specs.Sheet.{lines_offset, byte, u16_at, kind_count, code_count, line_count, field_count, fields_offset, total_of, counts, line_of, card_of, field_of}
use Rattle.model.specs.Refusal.{clear, first_of, header_checks}
use Rattle.theory.proofs.Lists.{length_from, mem_from, from_mem}
use Rattle.theory.proofs.Limits.{clear_formed}
use Rattle.theory.proofs.Sheets.{then, first_append, then_clear}
use Rattle.theory.proofs.Checks.{from_outside, from_less, cons_none}
use Rattle.sheet.specs.declared.reader.Card.{Card}
use Rattle.sheet.specs.Reader.{Reads, line_counts, field_counts, number_checks, layout_checks}
use Rattle.sheet.proofs.Counts.{counts_below, counts_past, at_counts}

-- What checks 1 to 5 leave: the header's numbers are within their limits.
pub record Numbers (s : List ℕ) : Type 0 where
  pub bytes : lines_offset ≤ length s
  pub kinds : (1 ≤ kind_count s) × (kind_count s ≤ most_kinds)
  pub codes : (1 ≤ code_count s) × (code_count s ≤ most_codes)
  pub lines : line_count s ≤ most_lines
  pub fields : field_count s ≤ most_fields

-- From checks 1 to 5.
pub numbers_limits : (s : List ℕ) → first_of (number_checks s) ≡ clear → Numbers s
unfolding header_checks
numbers_limits s e =
    let c1 = cons_none 1 0 _ _ e in
    let c2 = cons_none 2 0 _ _ c1.1 in
    let c3 = cons_none 3 0 _ _ c2.1 in
    let c4 = cons_none 4 0 _ _ c3.1 in
    let c5 = cons_none 5 0 _ _ c4.1 in
    record {
      bytes = from_less (length s) lines_offset c1.0;
      kinds = from_outside 1 most_kinds (kind_count s) c2.0;
      codes = from_outside 1 most_codes (code_count s) c3.0;
      lines = from_less most_lines (line_count s) c4.0;
      fields = from_less most_fields (field_count s) c5.0;
    }

-- The header's checks are the first five and the rest.
pub header_first : (s : List ℕ) → first_of (header_checks s) ≡ then (first_of (number_checks s)) (first_of (layout_checks s))
unfolding header_checks
header_first s = first_append (number_checks s) (layout_checks s)

pub header_clear : (s : List ℕ) → first_of (header_checks s) ≡ clear → (first_of (number_checks s) ≡ clear) × (first_of (layout_checks s) ≡ clear)
header_clear s e = then_clear (first_of (number_checks s)) (first_of (layout_checks s)) (sym (header_first s) ∙ e)

-- Where lines and fields start is under 65,536, whatever they number.
pub line_start_small : (n j : ℕ) → n ≤ most_kinds → j ≤ most_lines → lines_offset + j * (2 + n) ≤ 8724
line_start_small n j h l = let w : 2 + n ≤ 34 = omega arith in omega (arith, mul-le-mul l w)

pub field_start_small : (n i : ℕ) → n ≤ most_kinds → i ≤ most_fields → 2 * n * i ≤ 4096
field_start_small n i h l = let w : 2 * n ≤ 64 = omega arith in omega (arith, mul-le-mul w l)

-- The j-th of m parts of w bytes ends where the m parts end, or before.
pub part_within : (w j m : ℕ) → j < m → j * w + w ≤ m * w
part_within w j m h = let l : j + 1 ≤ m = omega arith in omega (arith, mul-le-mul_right w l, add-mul j 1 w, one-mul w)

-- The bytes of a sheet are under 256: what a slice of bytes tells of itself.
abbrev pub Bytes : List ℕ → Type 0
Bytes s = (k : ℕ) → byte s k < 256

-- The counts that a line leaves are under 256, and those of a field under 65,536.
pub left_under : (s : List ℕ) (j : ℕ) → Bytes s → (k : ℕ) → (line_of s j).left k < 256
unfolding line_of
left_under s j b k = go (dec_lt k (kind_count s))
  where
    f : ℕ → ℕ
    f k = byte s (lines_offset + j * (2 + kind_count s) + 2 + k)

    go : Dec (k < kind_count s) → counts (kind_count s) f k < 256
    go (yes h) = rw (counts_below (kind_count s) f k h) (b (lines_offset + j * (2 + kind_count s) + 2 + k))
    go (no h) = rw (counts_past (kind_count s) f k (omega arith)) (omega arith)

pub field_under : (s : List ℕ) (i : ℕ) → Bytes s → (k : ℕ) → field_of s i k < 65536
unfolding field_of
field_under s i b k = go (dec_lt k (kind_count s))
  where
    p : ℕ
    p = fields_offset s + 2 * kind_count s * i + 2 * k

    f : ℕ → ℕ
    f k = u16_at s (fields_offset s + 2 * kind_count s * i + 2 * k)

    go : Dec (k < kind_count s) → counts (kind_count s) f k < 65536
    go (yes h) = rw (counts_below (kind_count s) f k h) (omega (arith, b p, b (p + 1)))
    go (no h) = rw (counts_past (kind_count s) f k (omega arith)) (omega arith)

-- A line has as many counts as the card has kinds.
pub line_counts_length : (s : List ℕ) (j : ℕ) → length (line_counts s j) ≡ kind_count s
unfolding line_counts
line_counts_length s j = length_from (line_of s j).left 0 (kind_count s)

-- As a field they are what the line leaves.
pub line_counts_at : (s : List ℕ) (j : ℕ) → at (line_counts s j) ≡ (line_of s j).left
unfolding line_counts line_of
line_counts_at s j = at_counts (kind_count s) (kind_count s) (λ k. byte s (lines_offset + j * (2 + kind_count s) + 2 + k)) (le_refl (kind_count s))

-- A field's counts are as many as a card may have kinds.
pub field_counts_length : (s : List ℕ) (i : ℕ) → length (field_counts s i) ≡ most_kinds
unfolding field_counts
field_counts_length s i = length_from (field_of s i) 0 most_kinds

-- The lines of the card are those of the sheet, in order.
pub on_line : (s : List ℕ) (l : Line) → On (card_of s) l → (j : ℕ) × (j < line_count s) × (l ≡ line_of s j)
unfolding card_of
on_line s l o =
    let t = mem_from (line_of s) 0 (line_count s) l o in
    let z : 0 + t.0 ≡ t.0 = omega arith in
    (t.0, t.1, t.2 ∙ ap (line_of s) z)

module _ {s : List ℕ} {c : Card} (R : Reads s c) where
  -- The header's numbers are within their limits, and the bytes are as many as the layout says.
  pub limits : Numbers s
  limits = let W = clear_formed s R.passed in record { bytes = W.bytes; kinds = W.kinds; codes = W.codes; lines = W.lines; fields = W.fields }

  pub total_is : length s ≡ total_of s
  total_is = (clear_formed s R.passed).layout.3

  -- The struct's numbers are the header's.
  pub kinds_are : c.kinds ≡ kind_count s
  kinds_are = ap (λ (d : Card). d.kinds) R.header

  pub codes_are : c.codes ≡ code_count s
  codes_are = ap (λ (d : Card). d.codes) R.header

  pub lines_are : c.lines ≡ line_count s
  lines_are = ap (λ (d : Card). d.lines) R.header

  pub fields_are : c.fields ≡ field_count s
  fields_are = ap (λ (d : Card). d.fields) R.header

  -- The model's card has the struct's kinds, and its lines in order.
  pub card_kinds : (card_of s).kinds ≡ c.kinds
  unfolding card_of
  card_kinds = sym kinds_are

  pub card_lines : (card_of s).lines ≡ list_from (line_of s) 0 c.lines
  unfolding card_of
  card_lines = rw lines_are refl

  -- "kinds n, 1 to 32", "codes, 1 to 64", "lines m, 0 to 256", "fields f, 0 to 64"
  pub kinds_some : 1 ≤ c.kinds
  kinds_some = omega (arith, kinds_are, limits.kinds.0)

  pub kinds_most : c.kinds ≤ most_kinds
  kinds_most = omega (arith, kinds_are, limits.kinds.1)

  pub codes_some : 1 ≤ c.codes
  codes_some = omega (arith, codes_are, limits.codes.0)

  pub codes_most : c.codes ≤ most_codes
  codes_most = omega (arith, codes_are, limits.codes.1)

  pub lines_most : c.lines ≤ most_lines
  lines_most = omega (arith, lines_are, limits.lines)

  pub fields_most : c.fields ≤ most_fields
  fields_most = omega (arith, fields_are, limits.fields)

  -- As a field they are the sheet's field.
  pub field_counts_at : (i : ℕ) → at (field_counts s i) ≡ field_of s i
  unfolding field_counts field_of
  field_counts_at i = at_counts (kind_count s) most_kinds (λ k. u16_at s (fields_offset s + 2 * kind_count s * i + 2 * k)) limits.kinds.1

  module _ (j : ℕ) (h : j < c.lines) where
    -- Line j is one of the header's.
    in_lines : j < line_count s
    in_lines = omega (arith, h, lines_are)

    -- What checks 7 and 8 leave.
    under : ((line_of s j).kind < kind_count s) × ((line_of s j).code < code_count s)
    under = (clear_formed s R.passed).line j in_lines

    -- A line's kind and code are among the card's.
    pub kind_under : (line_of s j).kind < c.kinds
    kind_under = omega (arith, under.0, kinds_are)

    pub code_under : (line_of s j).code < c.codes
    code_under = omega (arith, under.1, codes_are)

    -- The line lies inside the sheet's bytes.
    pub line_inside : lines_offset + j * (2 + c.kinds) + 2 + c.kinds ≤ length s
    unfolding total_of fields_offset
    line_inside =
        rw kinds_are (omega (arith, total_is, part_within (2 + kind_count s) j (line_count s) in_lines))

    -- Every line of the sheet is one of the card's.
    pub line_on : On (card_of s) (line_of s j)
    unfolding card_of
    line_on = let z : 0 + j ≡ j = omega arith in rw (ap (line_of s) z) at (from_mem (line_of s) 0 (line_count s) j in_lines)
