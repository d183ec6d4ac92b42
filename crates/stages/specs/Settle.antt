-- What the settle loop holds at a stage of a sense, and what it answers.
use Rattle.std.specs.Prelude.{List, ◌≡◌, ℕ, suc}
use Rattle.model.specs.Sense.{Sense}
use Rattle.model.specs.Field.{none, at}
use Rattle.model.specs.Base.{settled_stage_in}
use Rattle.model.specs.Sheet.{card_of}
use Rattle.tables.specs.Table.{row_in}
use Rattle.rows.specs.Stage.{BaseAt, Classes, BoundsAt}
use Rattle.rows.specs.StageRows.{RowsBefore}
use Rattle.stages.specs.Kept.{KeptTo}
use Rattle.stages.specs.declared.settle.Settled.{Settled}

-- What is held at stage t: its rows, the classes of the lines by it, and bounds of the classes at the next stage. Stage 0 is before the first: all rows are empty, and all lines have one class.
pub record AtStage (sense : Sense) (s : List ℕ) (t : ℕ) (rows classes : List ℕ) : Type 0 where
  pub rows_are : RowsBefore sense s t rows
  pub no_rows : t ≡ 0 → (k : ℕ) → row_in rows k ≡ none
  pub classes_tell : (q : ℕ) → t ≡ suc q → Classes sense s q classes
  pub one_class : t ≡ 0 → (j : ℕ) → at classes j ≡ 0
  pub bounds : BoundsAt sense s t classes

-- "The settled stage", "the final base", and of the stages up to that one its marks and what is kept beside them.
pub record IsSettled (sense : Sense) (s : List ℕ) (r : Settled) : Type 0 where
  pub stage_is : r.stage ≡ settled_stage_in sense (card_of s)
  pub base_is : BaseAt sense s (settled_stage_in sense (card_of s)) r.base.rows
  pub kept_is : KeptTo sense s (settled_stage_in sense (card_of s)) r.base.since r.before
