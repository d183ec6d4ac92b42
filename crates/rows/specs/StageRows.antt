-- What is given when the rows of a stage of a sense are sought, and what is known when that of one kind is. The stage is t + 1.
use Rattle.std.specs.Prelude.{List, ◌≡◌, ℕ, suc, ◌<◌}
use Rattle.model.specs.Field.{at}
use Rattle.model.specs.Card.{Reached}
use Rattle.model.specs.Sense.{Sense}
use Rattle.model.specs.Base.{stage_row_in, stage_form_in}
use Rattle.model.specs.Sheet.{kind_count, line_count, line_of, card_of}
use Rattle.model.specs.Refusal.{Accepted}
use Rattle.theory.specs.Terms.{Earlier}
use Rattle.sheet.specs.Reader.{Reads, header_of}
use Rattle.tables.specs.Table.{row_in, Atoms}
use Rattle.rows.specs.Forms.{FormTable, OthersKept}
use Rattle.rows.specs.Stage.{LowersAt, Classes, BaseAt, LinesAre}

-- An accepted sheet, its lines, and the classes of the lines: those of stage t, if that is one from 1 up; where there is no stage before, all lines have one class.
pub record StageGiven (sense : Sense) (s : List ℕ) (t : ℕ) (lines classes : List ℕ) : Type 0 where
  pub reads : Reads s (header_of s)
  pub accepted : Accepted s
  pub lines_are : LinesAre s lines
  pub follows : (p : ℕ) → t ≡ suc p → Classes sense s p classes
  pub one_class : t ≡ 0 → (j : ℕ) → at classes j ≡ 0

-- The rows are those of stage t, if that is one from 1 up; where there is no stage before, no kind is an atom by them.
pub record RowsBefore (sense : Sense) (s : List ℕ) (t : ℕ) (previous : List ℕ) : Type 0 where
  pub follows : (p : ℕ) → t ≡ suc p → BaseAt sense s (suc p) previous
  pub no_atom : t ≡ 0 → (k : ℕ) → ¬ (row_in previous k k ≡ 1)

-- Before kind k, which is reached, is set: the rows of the earlier kinds, and the forms of what their lowering lines leave, are the stage's; the atoms that the table tells are its own, and are earlier.
pub record EarlierSet (sense : Sense) (s : List ℕ) (t k : ℕ) (rows forms : List ℕ) : Type 0 where
  pub is_reached : Reached (card_of s) k
  pub rows_known : (j : ℕ) → j < kind_count s → Earlier (card_of s) j k → row_in rows j ≡ stage_row_in sense (card_of s) (suc t) j
  pub forms_known : (j : ℕ) → LowersAt s j → Earlier (card_of s) (line_of s j).kind k → row_in forms j ≡ stage_form_in sense (card_of s) (suc t) (line_of s j).left
  pub atoms : Atoms rows (kind_count s)
  pub atoms_earlier : (j : ℕ) → j < kind_count s → row_in rows j j ≡ 1 → Earlier (card_of s) j k

-- The forms of what k's own lowering lines leave are the stage's.
abbrev pub OwnForms : Sense → List ℕ → ℕ → ℕ → List ℕ → Type 0
OwnForms sense s t k forms = (j : ℕ) → LowersAt s j → (line_of s j).kind ≡ k → row_in forms j ≡ stage_form_in sense (card_of s) (suc t) (line_of s j).left

-- The row of kind k is sought: the earlier kinds are set, and the forms of k's own lowering lines are known.
pub record RowSought (sense : Sense) (s : List ℕ) (t k : ℕ) (rows forms : List ℕ) : Type 0 where
  pub earlier_set : EarlierSet sense s t k rows forms
  pub own_forms : OwnForms sense s t k forms

-- Kind k is set: its row and the forms of its lowering lines are the stage's, and all others are as before.
pub record KindSet (sense : Sense) (s : List ℕ) (t k : ℕ) (rows newRows forms newForms : List ℕ) : Type 0 where
  pub row : row_in newRows k ≡ stage_row_in sense (card_of s) (suc t) k
  pub other_rows : OthersKept k rows newRows
  pub own_forms : OwnForms sense s t k newForms
  pub other_forms : (j : ℕ) → j < line_count s → ¬ ((line_of s j).kind ≡ k) → row_in newForms j ≡ row_in forms j

-- The rows of stage t are found: they are its base, and in the table of forms those of what the lowering lines leave are the stage's.
pub record RowsFound (sense : Sense) (s : List ℕ) (t : ℕ) (rows forms : List ℕ) : Type 0 where
  pub base_is : BaseAt sense s t rows
  pub forms_are : (j : ℕ) → LowersAt s j → row_in forms j ≡ stage_form_in sense (card_of s) t (line_of s j).left
  pub table : FormTable forms
