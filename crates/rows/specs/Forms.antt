-- Tables of forms, 32 counts a line: what a store of one row does, and what they hold of the lines.
use Rattle.std.specs.Prelude.{List, ◌≡◌, ℕ, ◌^◌, ◌<◌, length}
use Rattle.model.specs.Field.{Field}
use Rattle.model.specs.Sheet.{kind_count, line_count, line_of}
use Rattle.tables.specs.Table.{Under, row_in, form_in}
use Rattle.tables.specs.Lines.{kind_in, LowersIn}
use Rattle.tables.specs.Match.{Among}

-- A table of forms for all the lines that a sheet may have. Every count is so small that sums with a row's or a candidate's fit 64 bits.
pub record FormTable (forms : List ℕ) : Type 0 where
  pub long : length forms ≡ 8192
  pub small : Under (2 ^ 63) forms

-- The rows of the table but row k are as before.
abbrev pub OthersKept : ℕ → List ℕ → List ℕ → Type 0
OthersKept k old new = (i : ℕ) → ¬ (i ≡ k) → row_in new i ≡ row_in old i

-- Row k of the table is the field, the other rows are as before.
pub record RowSet (f : Field) (k : ℕ) (old new : List ℕ) : Type 0 where
  pub here : row_in new k ≡ f
  pub others : OthersKept k old new

module _ (s rows : List ℕ) where
  -- Row j of the table of forms is the decomposition, by the rows, of what line j leaves.
  abbrev pub LineForm : List ℕ → ℕ → Type 0
  LineForm forms j = row_in forms j ≡ form_in (kind_count s) rows (line_of s j).left

  -- The rows of the lines that lower the norm are the decompositions of what these lines leave.
  abbrev pub LoweringForms : List ℕ → List ℕ → Type 0
  LoweringForms lines forms = (j : ℕ) → j < line_count s → LowersIn lines j → LineForm forms j

  -- The rows of all lines are the decompositions of what these lines leave.
  pub record AllForms (forms : List ℕ) : Type 0 where
    pub forms_are : (j : ℕ) → j < line_count s → LineForm forms j
    pub small : Under (2 ^ 63) forms

  -- The rows of the lines of a list are the decompositions of what these lines leave, and the rows of other lines are as before.
  pub record ListForms (list old new : List ℕ) : Type 0 where
    pub forms_are : (j : ℕ) → Among list j → LineForm new j
    pub others : (j : ℕ) → ¬ Among list j → row_in new j ≡ row_in old j
    pub small : Under (2 ^ 63) new

  -- The rows of the lines of kind k that lower the norm are the decompositions of what these lines leave, and the rows of other kinds' lines are as before.
  pub record KindForms (lines : List ℕ) (k : ℕ) (old new : List ℕ) : Type 0 where
    pub forms_are : (j : ℕ) → j < line_count s → LowersIn lines j → kind_in lines j ≡ k → LineForm new j
    pub others : (j : ℕ) → ¬ (kind_in lines j ≡ k) → row_in new j ≡ row_in old j
    pub small : Under (2 ^ 63) new
