-- The lines of a sheet as one table of bytes: the kinds of the lines, then their codes, then of each line 1 where it lowers the norm, else 0.
use Rattle.std.specs.Prelude.{List, ◌≡◌, ℕ, ◌+◌, ◌*◌, ◌/◌, ◌≤◌, ◌<◌, length}
use Rattle.model.specs.Field.{at}
use Rattle.model.specs.Limits.{most_kinds, most_lines}

-- How many lines the table has.
abbrev pub lines_in : List ℕ → ℕ
lines_in lines = length lines / 3

-- The kind of a line.
unfoldable pub kind_in : List ℕ → ℕ → ℕ
kind_in lines j = at lines j

-- The code of a line.
unfoldable pub code_in : List ℕ → ℕ → ℕ
code_in lines j = at lines (lines_in lines + j)

-- The line lowers the norm.
unfoldable pub LowersIn : List ℕ → ℕ → Type 0
LowersIn lines j = at lines (2 * lines_in lines + j) ≡ 1

-- The table is whole: at most 256 lines, each of one of the 32 kinds that there can be.
pub record LineTable (lines : List ℕ) : Type 0 where
  pub few : lines_in lines ≤ most_lines
  pub kinds_under : (j : ℕ) → j < lines_in lines → kind_in lines j < most_kinds

-- A line of the table that lowers the norm.
abbrev pub LoweringIn : List ℕ → ℕ → Type 0
LoweringIn lines j = (j < lines_in lines) × LowersIn lines j
