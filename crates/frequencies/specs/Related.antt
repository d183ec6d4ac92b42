-- How many of the fields of a size each stage relates to a field of a sheet: what the contracts of this crate cite.
use Rattle.std.specs.Prelude.{List, ◌≡◌, ℕ, zero, suc, ◌-◌, ◌≤◌, ◌<◌, length}
use Rattle.model.specs.Sense.{plain}
use Rattle.model.specs.Field.{at}
use Rattle.model.specs.Card.{Reached, reached_kinds}
use Rattle.model.specs.Limits.{most_kinds}
use Rattle.model.specs.Base.{stage_row_in, stage_form_in}
use Rattle.model.specs.Sheet.{kind_count, card_of, field_of}
use Rattle.model.specs.Refusal.{Accepted}
use Rattle.theory.specs.Widths.{Bytes}
use Rattle.tables.specs.Table.{row_in}
use Rattle.shelf.specs.Kinds.{InOrder}
use Rattle.stages.specs.Kept.{KeptTo, form_before}

-- A kind's row is that of the stage before, and the rows of all others are as they were.
pub record RowLowered (since before : List ℕ) (stage k : ℕ) (rows lowered : List ℕ) : Type 0 where
  pub here : row_in lowered k ≡ form_before since before stage (row_in rows k)
  pub others : (i : ℕ) → ¬ (i ≡ k) → row_in lowered i ≡ row_in rows i

-- The rows of the kinds are those of the stage before.
abbrev pub RowsLowered : List ℕ → List ℕ → List ℕ → ℕ → List ℕ → List ℕ → Type 0
RowsLowered kinds since before stage rows lowered = (x : ℕ) → x < length kinds → row_in lowered (at kinds x) ≡ form_before since before stage (row_in rows (at kinds x))

-- Of an accepted sheet: its reached kinds, their rows at stage t, the form of field i there, and what is kept of the stages up to that one or a later one.
pub record RowsAt (s : List ℕ) (i t : ℕ) (kinds since before rows form : List ℕ) : Type 0 where
  pub accepted : Accepted s
  pub bytes : Bytes s
  pub few : kind_count s ≤ most_kinds
  pub kinds_are : kinds ≡ reached_kinds (card_of s)
  pub in_order : InOrder kinds
  pub kept : (u : ℕ) × (t ≤ u) × KeptTo plain s u since before
  pub rows_are : (k : ℕ) → Reached (card_of s) k → row_in rows k ≡ stage_row_in plain (card_of s) t k
  pub form_is : at form ≡ stage_form_in plain (card_of s) t (field_of s i)

-- How many the stage before relates; before stage 0, all of them.
unfoldable pub related_before : ℕ → List ℕ → ℕ → ℕ
related_before all related zero = all
related_before all related (suc q) = at related q

-- The count of each place, from how many fields there are and how many of them each stage relates: at place 0 those that the last stage relates, at place q + 1 those that stage q parts.
unfoldable pub placed : ℕ → List ℕ → ℕ → ℕ → ℕ
placed all related last zero = at related last
placed all related last (suc q) = related_before all related q - at related q
