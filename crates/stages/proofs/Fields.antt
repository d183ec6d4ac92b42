-- The fields of a sheet: their counts as read, and their decompositions by the rows of a stage.
use mathlib.Core.List.{List}
use mathlib.Core.Path.{◌≡◌, sym, ◌∙◌, ap, ap₂, fun_ext}
use Prim.Native.Nat.{ℕ, zero, suc, ◌+◌, ◌*◌, ◌^◌, ◌≤◌, ◌<◌}
use native.Mathlib.Decide.{dec_lt}
use native.Mathlib.Omega.{arith}
use lib.ListN.{length, take}
use lib.Seq.{length-take-le}
use Rattle.model.specs.Sense.{Sense, total}
use Rattle.model.specs.Field.{Field, weigh, at, tokens}
use Rattle.model.specs.Norm.{norm}
use Rattle.model.specs.Sheet.{kind_count, u16_at, fields_offset, card_of, field_of}
use Rattle.model.specs.Refusal.{Accepted}
use Rattle.theory.specs.Widths.{Bytes}
use Rattle.sheet.specs.Reader.{Reads, field_counts}
use Rattle.sheet.specs.declared.reader.Card.{Card}
use Rattle.sheet.proofs.Counts.{counts_past}
use Rattle.sheet.proofs.Laws.{kinds_are, kinds_most, field_under, field_counts_length, field_counts_at}
use Rattle.weights.proofs.Bounds.{counts_fit}
use Rattle.norms.specs.Norms.{Accepts}
use Rattle.norms.proofs.Laws.{norm_is, norm_fits}
use Rattle.tables.specs.Table.{form_in}
use Rattle.rows.specs.Stage.{BaseAt}
use Rattle.stages.specs.Parting.{FieldsFit}
use Rattle.tables.proofs.Tables.{at_kind, first_below, first_past}
use Rattle.rows.proofs.Sizes.{narrow, field_form_limit}
use Rattle.rows.proofs.StageRows.{base_form}

-- A field as it was read: 32 counts, of which the card's kinds are a part.
module _ {s : List ℕ} {c : Card} (R : Reads s c) (i : ℕ) (xs : List ℕ) (read : xs ≡ field_counts s i) where
  counts_are : at xs ≡ field_of s i
  counts_are = ap at read ∙ field_counts_at R i

  -- Its norm fits 64 bits, and is the field's.
  pub read_fits : {norms : List ℕ} → Accepts s c norms → Bytes s → weigh c.kinds (at norms) (at xs) < 2 ^ 64
  read_fits A bytes = norm_fits A (at xs) (λ k. omega (arith, at_kind counts_are k, field_under s i bytes k))

  pub read_norm : {norms : List ℕ} → Accepts s c norms → weigh c.kinds (at norms) (at xs) ≡ norm (card_of s) (field_of s i)
  read_norm {norms} A = ap (weigh c.kinds (at norms)) counts_are ∙ norm_is A (field_of s i)

  -- Its tokens fit 64 bits, and are the field's total.
  pub read_few : Bytes s → tokens c.kinds (at xs) < 2 ^ 64
  read_few bytes = counts_fit c.kinds (λ _. 1) (at xs) (kinds_most R) (λ k. omega arith) (λ k. omega (arith, at_kind counts_are k, field_under s i bytes k))

  pub read_total : tokens c.kinds (at xs) ≡ total (card_of s) (field_of s i)
  unfolding card_of
  read_total = ap (λ n. tokens n (at xs)) (kinds_are R) ∙ ap (tokens (kind_count s)) counts_are

  -- The part of the card's kinds.
  pub part_long : length (take c.kinds xs) ≡ c.kinds
  part_long = length-take-le c.kinds xs (omega (arith, kinds_most R, ap length read, field_counts_length s i))

  none_past : (k : ℕ) → c.kinds ≤ k → field_of s i k ≡ 0
  unfolding field_of
  none_past k h = counts_past (kind_count s) (λ k. u16_at s (fields_offset s + 2 * kind_count s * i + 2 * k)) k (omega (arith, kinds_are R))

  part_field : at (take c.kinds xs) ≡ field_of s i
  part_field = fun_ext (λ k. go k (dec_lt k c.kinds))
    where
      go : (k : ℕ) → Dec (k < c.kinds) → at (take c.kinds xs) k ≡ field_of s i k
      go k (yes h) = first_below xs c.kinds k h ∙ at_kind counts_are k
      go k (no h) = first_past xs c.kinds k (omega arith) ∙ sym (none_past k (omega arith))

  -- Its decomposition is the field's.
  pub part_form : (rows : List ℕ) → form_in (length (take c.kinds xs)) rows (at (take c.kinds xs)) ≡ form_in (kind_count s) rows (field_of s i)
  part_form rows = ap₂ (λ (n : ℕ) (a : Field). form_in n rows a) (part_long ∙ kinds_are R) part_field

-- The decompositions of fields by the rows of a stage, from 1 up, fit 64 bits.
pub fields_fit : (sense : Sense) (s : List ℕ) → Accepted s → Bytes s → (t : ℕ) (rows : List ℕ) → 1 ≤ t → BaseAt sense s t rows → FieldsFit s rows
fields_fit sense s ok bytes zero rows h B = λ i j. absurd (omega arith)
fields_fit sense s ok bytes (suc q) rows h B = λ i j.
    omega (arith, at_kind (base_form sense s ok q rows B (field_of s i)) j, field_form_limit sense s ok q bytes i j, narrow.0)
