-- The header of a sheet, copied, with another number of lines and what follows from it.
use mathlib.Core.List.{List}
use mathlib.Core.Path.{◌≡◌, sym, ◌∙◌, ap}
use Prim.Native.Nat.{ℕ, ◌+◌, ◌*◌, ◌≤◌, ◌<◌}
use native.Mathlib.Omega.{arith}
use Rattle.model.specs.Sheet.{lines_offset, byte, u16_at, kind_count, line_count, field_count, fields_offset, total_of}
use Rattle.theory.proofs.Limits.{clear_formed}
use Rattle.sheet.specs.Reader.{Reads}
use Rattle.sheet.specs.declared.reader.Card.{Card}
use Rattle.sheet.proofs.Laws.{kinds_are, codes_are, fields_are, line_start_small, field_start_small}
use Rattle.part_sheet.specs.Bytes.{Copied, NumberSet}
use Rattle.part_sheet.specs.Part.{with_lines, HeaderSet}

-- A number of two bytes is the same where its bytes are.
pub u16_same : (p q : List ℕ) (i j : ℕ) → byte q i ≡ byte p j → byte q (i + 1) ≡ byte p (j + 1) → u16_at q i ≡ u16_at p j
u16_same p q i j e d = omega (arith, e, d)

module _ {s : List ℕ} {c : Card} (R : Reads s c) (m : ℕ) where
  -- In the sheet the high halves of the offset of the fields and of the total are 0.
  offset_high : u16_at s 14 ≡ 0
  unfolding fields_offset
  offset_high = let W = clear_formed s R.passed in omega (arith, W.layout.1, line_start_small (kind_count s) (line_count s) W.kinds.1 W.lines)

  total_high : u16_at s 18 ≡ 0
  unfolding total_of fields_offset
  total_high =
      let W = clear_formed s R.passed in
      omega (arith, W.layout.2, line_start_small (kind_count s) (line_count s) W.kinds.1 W.lines, field_start_small (kind_count s) (field_count s) W.kinds.1 W.fields)

  -- The header copied, then the number of lines, the offset and the total written over.
  pub header_set : {offset total : ℕ} {p copied counted placed whole : List ℕ} → offset ≡ lines_offset + m * (2 + c.kinds) → total ≡ lines_offset + m * (2 + c.kinds) + 2 * c.kinds * c.fields
      → Copied s 0 p 0 20 copied → NumberSet m copied 4 counted → NumberSet offset counted 12 placed → NumberSet total placed 16 whole → HeaderSet (with_lines c m) p whole
  header_set {p = p} {copied} {counted} {placed} {whole} x y C L F T = record {
    long = T.long ∙ F.long ∙ L.long ∙ C.long;
    header = record {
      kind_count_is = low 0 (omega arith) ∙ sym (kinds_are R);
      code_count_is = low 2 (omega arith) ∙ sym (codes_are R);
      line_count_lem = u16_same counted whole 4 4 (T.before 4 (omega arith) ∙ F.before 4 (omega arith)) (T.before 5 (omega arith) ∙ F.before 5 (omega arith)) ∙ L.here;
      field_count_is = middle 6 (omega arith) (omega arith) ∙ sym (fields_are R);
      lines_offset_is = omega (arith, middle 8 (omega arith) (omega arith), middle 10 (omega arith) (omega arith), (clear_formed s R.passed).layout.0);
      fields_offset_is = omega (arith, offset_low, offset_rest, offset_high);
      total = omega (arith, T.here, y, total_rest, total_high);
    };
    past = λ i l. T.past i (omega arith) ∙ F.past i (omega arith) ∙ L.past i (omega arith) ∙ C.past i (omega arith);
  }
    where
      here : (i : ℕ) → i < 20 → byte copied i ≡ byte s i
      here i l = let z : 0 + i ≡ i = omega arith in sym (ap (byte copied) z) ∙ C.here i l ∙ ap (byte s) z

      low : (i : ℕ) → i + 1 < 4 → u16_at whole i ≡ u16_at s i
      low i l = u16_same s whole i i (at i (omega arith)) (at (i + 1) (omega arith))
        where
          at : (j : ℕ) → j < 4 → byte whole j ≡ byte s j
          at j h = T.before j (omega arith) ∙ F.before j (omega arith) ∙ L.before j (omega arith) ∙ here j (omega arith)

      middle : (i : ℕ) → 6 ≤ i → i + 1 < 12 → u16_at whole i ≡ u16_at s i
      middle i l h = u16_same s whole i i (at i (omega arith) (omega arith)) (at (i + 1) (omega arith) (omega arith))
        where
          at : (j : ℕ) → 6 ≤ j → j < 12 → byte whole j ≡ byte s j
          at j a b = T.before j (omega arith) ∙ F.before j (omega arith) ∙ L.past j (omega arith) ∙ here j (omega arith)

      offset_low : u16_at whole 12 ≡ lines_offset + m * (2 + c.kinds)
      offset_low = u16_same placed whole 12 12 (T.before 12 (omega arith)) (T.before 13 (omega arith)) ∙ F.here ∙ x

      offset_rest : u16_at whole 14 ≡ u16_at s 14
      offset_rest = u16_same s whole 14 14 (at 14 (omega arith) (omega arith)) (at 15 (omega arith) (omega arith))
        where
          at : (j : ℕ) → 14 ≤ j → j < 16 → byte whole j ≡ byte s j
          at j a b = T.before j (omega arith) ∙ F.past j (omega arith) ∙ L.past j (omega arith) ∙ here j (omega arith)

      total_rest : u16_at whole 18 ≡ u16_at s 18
      total_rest = u16_same s whole 18 18 (at 18 (omega arith) (omega arith)) (at 19 (omega arith) (omega arith))
        where
          at : (j : ℕ) → 18 ≤ j → j < 20 → byte whole j ≡ byte s j
          at j a b = T.past j (omega arith) ∙ F.past j (omega arith) ∙ L.past j (omega arith) ∙ here j (omega arith)
