-- The sheet of the reached part: its header, the lines taken and the fields copied are a sheet to which none of 1 to 8 applies, and its card is the part.
use mathlib.Core.List.{List, Memᴰ}
use mathlib.Core.Path.{◌≡◌, refl, sym, ◌∙◌, ap, subst}
use Prim.Native.Nat.{ℕ, ◌+◌, ◌*◌, ◌≤◌, ◌<◌}
use native.Mathlib.Nat.{mul-le-mul, mul-le-mul_right, mul-suc}
use native.Mathlib.Omega.{arith}
use lib.ListN.{length, take}
use lib.Seq.{get_or-take, length-take-le}
use Rattle.model.specs.Finite.{list_from}
use Rattle.model.specs.Field.{Field}
use Rattle.model.specs.Card as model
use Rattle.model.specs.Plain.{HeaderRead}
use Rattle.model.specs.Sheet.{lines_offset, byte, u16_at, kind_count, code_count, line_count, field_count, fields_offset, total_of, counts, line_of, field_of, card_of}
use Rattle.theory.proofs.Limits.{WellFormed, formed_clear, clear_formed}
use Rattle.theory.proofs.Lists.{from_mem, from_same}
use Rattle.theory.proofs.Sheets.{sheet_reaches}
use Rattle.sheet.specs.Reader.{Reads}
use Rattle.sheet.specs.declared.reader.Card.{Card}
use Rattle.sheet.proofs.Laws.{kinds_are, codes_are, lines_are, fields_are, kinds_most, codes_some, codes_most, lines_most, fields_most, total_is, line_start_small, field_start_small, on_line}
use Rattle.part_sheet.specs.Bytes.{Copied}
use Rattle.part_sheet.specs.Part.{with_lines, size_of, line_in, LinesTaken, HeaderSet, IsPart}
use Rattle.part_sheet.proofs.Headers.{u16_same}
use Rattle.part_sheet.proofs.Lines.{counts_same, lines_same, line_in_lem}

-- The fields of the sheet end where it does, and those of the part before the buffer does.
module _ {s : List ℕ} {c : Card} (R : Reads s c) where
  pub sheet_whole : lines_offset + c.lines * (2 + c.kinds) + 2 * c.kinds * c.fields ≡ length s
  unfolding total_of fields_offset
  sheet_whole = ap size_of R.header ∙ sym (total_is R)

  -- "12,821 bytes" are one more than the longest sheet has.
  pub sheet_longest : length s ≤ 12820
  sheet_longest = omega (arith, sheet_whole, line_start_small c.kinds c.lines (kinds_most R) (lines_most R), field_start_small c.kinds c.fields (kinds_most R) (fields_most R))

  pub part_fits : (m : ℕ) → m ≤ c.lines → lines_offset + m * (2 + c.kinds) + 2 * c.kinds * c.fields ≤ length s
  part_fits m h = omega (arith, sheet_whole, mul-le-mul_right (2 + c.kinds) h)

  pub part_room : {d : Card} {m : ℕ} → m ≤ c.lines → d ≡ with_lines c m → lines_offset + m * (2 + d.kinds) + 2 * c.kinds * c.fields ≤ length s
  part_room {d} {m} h e = rw e (part_fits m h)

-- A buffer p, with the lines taken, with the header set after that, and with the fields copied last.
module _ {s : List ℕ} {c : Card} (R : Reads s c) (m : ℕ) {p lined headed whole : List ℕ} (room : length s ≤ length p) (L : LinesTaken s p m lined) (H : HeaderSet (with_lines c m) lined headed)
    (F : Copied s (lines_offset + c.lines * (2 + c.kinds)) headed (lines_offset + m * (2 + c.kinds)) (2 * c.kinds * c.fields) whole) where
  abbrev d : Card
  d = with_lines c m

  abbrev size : ℕ
  size = size_of d

  abbrev t : List ℕ
  t = take size whole

  few : m ≤ c.lines
  few = omega (arith, L.few, lines_are R)

  within : size ≤ length whole
  within = omega (arith, part_fits R m few, room, L.long, H.long, F.long)

  long : length t ≡ size
  long = length-take-le size whole within

  -- The bytes of the header, of the lines and of the fields.
  byte_of : (i : ℕ) → i < size → byte t i ≡ byte whole i
  byte_of i h = get_or-take size whole i 0 h

  header_byte : (i : ℕ) → i < 20 → byte t i ≡ byte headed i
  header_byte i h = byte_of i (omega arith) ∙ F.before i (omega arith)

  line_byte : (i : ℕ) → lines_offset ≤ i → i < lines_offset + m * (2 + c.kinds) → byte t i ≡ byte lined i
  line_byte i l h = byte_of i (omega arith) ∙ F.before i h ∙ H.past i l

  field_byte : (x : ℕ) → x < 2 * c.kinds * c.fields → byte t (lines_offset + m * (2 + c.kinds) + x) ≡ byte s (lines_offset + c.lines * (2 + c.kinds) + x)
  field_byte x h = byte_of _ (omega arith) ∙ F.here x h

  header : HeaderRead c.kinds c.codes m c.fields t
  header = record {
    kind_count_is = number 0 (omega arith) ∙ H.header.kind_count_is;
    code_count_is = number 2 (omega arith) ∙ H.header.code_count_is;
    line_count_lem = number 4 (omega arith) ∙ H.header.line_count_lem;
    field_count_is = number 6 (omega arith) ∙ H.header.field_count_is;
    lines_offset_is = omega (arith, number 8 (omega arith), number 10 (omega arith), H.header.lines_offset_is);
    fields_offset_is = omega (arith, number 12 (omega arith), number 14 (omega arith), H.header.fields_offset_is);
    total = omega (arith, number 16 (omega arith), number 18 (omega arith), H.header.total);
  }
    where
      number : (i : ℕ) → i + 1 < 20 → u16_at t i ≡ u16_at headed i
      number i h = u16_same headed t i i (header_byte i (omega arith)) (header_byte (i + 1) h)

  same_kinds : kind_count t ≡ kind_count s
  same_kinds = header.kind_count_is ∙ kinds_are R

  -- Its lines are those of the reached kinds.
  lines : list_from (line_of t) 0 (line_count t) ≡ model.reached_lines (card_of s)
  lines =
      ap (list_from (line_of t) 0) header.line_count_lem ∙ from_same _ _ 0 m (λ j _ _. line_in_lem t j ∙ ap (λ n. line_in n t j) same_kinds)
      ∙ lines_same (kind_count s) lined t m (λ x l h. line_byte x l (rw (kinds_are R) h)) ∙ L.lines

  -- Its fields are the sheet's: the same counts, at another offset.
  part_field : (i : ℕ) → field_of t i ≡ counts c.kinds (λ k. u16_at t (lines_offset + m * (2 + c.kinds) + 2 * c.kinds * i + 2 * k))
  unfolding field_of fields_offset
  part_field i = rw (header.kind_count_is, header.line_count_lem) refl

  sheet_field : (i : ℕ) → field_of s i ≡ counts c.kinds (λ k. u16_at s (lines_offset + c.lines * (2 + c.kinds) + 2 * c.kinds * i + 2 * k))
  unfolding field_of fields_offset
  sheet_field i = rw (kinds_are R, lines_are R) refl

  module _ (i k : ℕ) (h : i < c.fields) (l : k < c.kinds) where
    inside : 2 * c.kinds * i + 2 * k + 1 < 2 * c.kinds * c.fields
    inside = let w : 2 * c.kinds ≤ 2 * c.kinds = omega arith in omega (arith, mul-le-mul w h, mul-suc (2 * c.kinds) i)

    count_byte : (x : ℕ) → x < 2
        → byte t (lines_offset + m * (2 + c.kinds) + 2 * c.kinds * i + 2 * k + x) ≡ byte s (lines_offset + c.lines * (2 + c.kinds) + 2 * c.kinds * i + 2 * k + x)
    count_byte x b =
        let y : lines_offset + m * (2 + c.kinds) + (2 * c.kinds * i + 2 * k + x) ≡ lines_offset + m * (2 + c.kinds) + 2 * c.kinds * i + 2 * k + x = omega arith in
        let z : lines_offset + c.lines * (2 + c.kinds) + (2 * c.kinds * i + 2 * k + x) ≡ lines_offset + c.lines * (2 + c.kinds) + 2 * c.kinds * i + 2 * k + x = omega arith in
        sym (ap (byte t) y) ∙ field_byte (2 * c.kinds * i + 2 * k + x) (omega (arith, inside)) ∙ ap (byte s) z

    same_count : u16_at t (lines_offset + m * (2 + c.kinds) + 2 * c.kinds * i + 2 * k) ≡ u16_at s (lines_offset + c.lines * (2 + c.kinds) + 2 * c.kinds * i + 2 * k)
    same_count =
        let y : lines_offset + m * (2 + c.kinds) + 2 * c.kinds * i + 2 * k + 0 ≡ lines_offset + m * (2 + c.kinds) + 2 * c.kinds * i + 2 * k = omega arith in
        let z : lines_offset + c.lines * (2 + c.kinds) + 2 * c.kinds * i + 2 * k + 0 ≡ lines_offset + c.lines * (2 + c.kinds) + 2 * c.kinds * i + 2 * k = omega arith in
        u16_same s t _ _ (sym (ap (byte t) y) ∙ count_byte 0 (omega arith) ∙ ap (byte s) z) (count_byte 1 (omega arith))

  same_field : (i : ℕ) → i < c.fields → field_of t i ≡ field_of s i
  same_field i h = part_field i ∙ counts_same c.kinds _ _ (λ k l. same_count i k h l) ∙ sym (sheet_field i)

  fields : list_from (field_of t) 0 (field_count t) ≡ list_from (field_of s) 0 (field_count s)
  fields = ap (list_from (field_of t) 0) (header.field_count_is ∙ fields_are R) ∙ from_same _ _ 0 (field_count s) (λ i _ h. same_field i (omega (arith, fields_are R)))

  -- Each of its lines is one of the sheet's.
  line_under : (j : ℕ) → j < line_count t → ((line_of t j).kind < kind_count t) × ((line_of t j).code < code_count t)
  line_under j h =
      let z : 0 + j ≡ j = omega arith in
      let o : Memᴰ (line_of t (0 + j)) (model.reached_lines (card_of s)) = subst (Memᴰ (line_of t (0 + j))) lines (from_mem (line_of t) 0 (line_count t) j h) in
      let i = on_line s (line_of t (0 + j)) (((sheet_reaches s).lines_iff (line_of t (0 + j))).0 o).0 in
      let e : line_of t j ≡ line_of s i.0 = sym (ap (line_of t) z) ∙ i.2 in
      let under = (clear_formed s R.passed).line i.0 i.1 in
      (omega (arith, ap (λ (l : model.Line). l.kind) e, same_kinds, under.0), omega (arith, ap (λ (l : model.Line). l.code) e, header.code_count_is, codes_are R, under.1))

  formed : WellFormed t
  unfolding total_of fields_offset
  formed =
      let W = clear_formed s R.passed in
      record {
        bytes = omega (arith, long);
        kinds = (omega (arith, same_kinds, W.kinds.0), omega (arith, same_kinds, W.kinds.1));
        codes = (omega (arith, header.code_count_is, codes_some R), omega (arith, header.code_count_is, codes_most R));
        lines = omega (arith, header.line_count_lem, few, lines_most R);
        fields = omega (arith, header.field_count_is, fields_most R);
        layout = (header.lines_offset_is, header.fields_offset_is ∙ offset, header.total ∙ total, long ∙ total);
        line = line_under;
      }
    where
      offset : lines_offset + m * (2 + c.kinds) ≡ lines_offset + line_count t * (2 + kind_count t)
      offset = rw (header.kind_count_is, header.line_count_lem) refl

      total : size_of (with_lines c m) ≡ lines_offset + line_count t * (2 + kind_count t) + 2 * kind_count t * field_count t
      total = rw (header.kind_count_is, header.line_count_lem, header.field_count_is) refl

  is_part : IsPart s (with_lines c m) whole
  unfolding card_of
  is_part = record {
    room = within;
    reads = record { header = rw (header.kind_count_is, header.code_count_is, header.line_count_lem, header.field_count_is) refl; passed = formed_clear t formed };
    card_is = cards same_kinds lines fields;
  }
    where
      cards : {n n' : ℕ} {ls ls' : List model.Line} {fs fs' : List Field} → n ≡ n' → ls ≡ ls' → fs ≡ fs'
          → ◌≡◌ {A = model.Card} (record { kinds = n; lines = ls; fields = fs }) (record { kinds = n'; lines = ls'; fields = fs' })
      cards e g h = rw (e, g, h) refl

-- The same, of what the functions return.
pub part_written : {s : List ℕ} {c d : Card} (R : Reads s c) {m from to : ℕ} {p lined headed whole : List ℕ} → length s ≤ length p → LinesTaken s p m lined → d ≡ with_lines c m
    → HeaderSet (with_lines c m) lined headed → from ≡ lines_offset + c.lines * (2 + c.kinds) → to ≡ lines_offset + m * (2 + d.kinds) → Copied s from headed to (2 * c.kinds * c.fields) whole
    → IsPart s d whole
part_written R {m} room L e H a b F = rw e (is_part R m room L H (rw (a, b, e) at F))
