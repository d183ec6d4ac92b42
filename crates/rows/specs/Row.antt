-- The row of a kind k, over plain tables: which lines tell candidates.
use Rattle.std.specs.Prelude.{List, ◌≡◌, ℕ}
use Rattle.model.specs.Field.{Field, at}
use Rattle.tables.specs.Table.{row_in}
use Rattle.tables.specs.Lines.{kind_in, code_in, LowersIn, LoweringIn}
use Rattle.rows.specs.Stage.{Told}

-- Line l is one of kind k that lowers the norm.
abbrev pub LowersKind : List ℕ → ℕ → ℕ → Type 0
LowersKind lines k l = LoweringIn lines l × (kind_in lines l ≡ k)

-- Line m has line l's class, lowers the norm, reads line l's code, and is of a kind that is an atom by the rows of the table.
pub record Suits (lines classes rows : List ℕ) (l m : ℕ) : Type 0 where
  pub class : at classes m ≡ at classes l
  pub lowering : LowersIn lines m
  pub code : code_in lines m ≡ code_in lines l
  pub own : row_in rows (kind_in lines m) (kind_in lines m) ≡ 1

-- b is m's kind with what l leaves, less what m leaves, in atoms, by the forms in the table.
abbrev pub ToldIn : List ℕ → List ℕ → ℕ → ℕ → Field → Type 0
ToldIn lines forms = Told (kind_in lines) (row_in forms)
