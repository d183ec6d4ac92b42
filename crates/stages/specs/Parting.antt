-- The least stage of a sense that parts two fields.
use Rattle.std.specs.Prelude.{not, List, ◌≡◌, ℕ, suc, ◌^◌, ◌≤◌, ◌<◌}
use Rattle.model.specs.Sense.{Sense}
use Rattle.model.specs.Finite.{least_from}
use Rattle.model.specs.Field.{at}
use Rattle.model.specs.Norm.{kind_norm}
use Rattle.model.specs.Stage.{stage_in}
use Rattle.model.specs.Base.{stage_form_in}
use Rattle.model.specs.Sheet.{kind_count, card_of, field_of}
use Rattle.model.specs.Limits.{most_kinds}
use Rattle.model.specs.Refusal.{Accepted}
use Rattle.theory.specs.Widths.{Bytes}
use Rattle.tables.specs.Table.{form_in}
use Rattle.stages.specs.Kept.{KeptTo}

-- "The stage is the least that does not relate the pair", out of the stages 0 to t: t + 1 where each of them relates fields i and j.
unfoldable pub parted_by : Sense → List ℕ → ℕ → ℕ → ℕ → ℕ
parted_by sense s t i j = least_from (λ q. not (stage_in sense (card_of s) (kind_norm (card_of s)) q (field_of s i) (field_of s j))) 0 (suc t)

-- The decompositions of the sheet's fields, by the rows, fit 64 bits.
abbrev pub FieldsFit : List ℕ → List ℕ → Type 0
FieldsFit s rows = (i j : ℕ) → form_in (kind_count s) rows (field_of s i) j < 2 ^ 64

-- Two forms of stage t, of fields i and j, that differ, with what is kept of the stages up to that one or a later one.
pub record FormsPart (sense : Sense) (s : List ℕ) (t i j : ℕ) (since rows first second : List ℕ) : Type 0 where
  pub accepted : Accepted s
  pub bytes : Bytes s
  pub few : kind_count s ≤ most_kinds
  pub kept : (u : ℕ) × (t ≤ u) × KeptTo sense s u since rows
  pub first_is : at first ≡ stage_form_in sense (card_of s) t (field_of s i)
  pub second_is : at second ≡ stage_form_in sense (card_of s) t (field_of s j)
  pub differ : ¬ (stage_form_in sense (card_of s) t (field_of s i) ≡ stage_form_in sense (card_of s) t (field_of s j))

-- r is the least of the stages 1 to t at which the forms of fields i and j differ.
pub record LeastPart (sense : Sense) (s : List ℕ) (t i j r : ℕ) : Type 0 where
  pub from : 1 ≤ r
  pub most : r ≤ t
  pub differ : ¬ (stage_form_in sense (card_of s) r (field_of s i) ≡ stage_form_in sense (card_of s) r (field_of s j))
  pub same : (q : ℕ) → 1 ≤ q → q < r → stage_form_in sense (card_of s) q (field_of s i) ≡ stage_form_in sense (card_of s) q (field_of s j)
