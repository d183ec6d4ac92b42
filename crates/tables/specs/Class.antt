-- The classes of the lines that a field may use, and tables of marks that tell them.
use Rattle.std.specs.Prelude.{Bool, true, false, ◌≡◌, List, ◌↔◌, ℕ, ◌*◌, ◌<◌, length, get_or, take, drop}
use Rattle.model.specs.Field.{Field, unit, at}
use Rattle.model.specs.Limits.{most_kinds, most_lines}
use Rattle.model.specs.Sense.{Sense}
use Rattle.tables.specs.Table.{row_in}
use Rattle.tables.specs.Senses.{SharesTotal}
use Rattle.tables.specs.Lines.{lines_in, kind_in}
use Rattle.tables.specs.Match.{Answered}

-- Over any kinds and classes of numbered lines.
module _ (kind class : ℕ → ℕ) where
  -- A field may use one of the first m lines that has class x.
  abbrev pub MayUse : Field → ℕ → ℕ → Type 0
  MayUse f m x = (i : ℕ) × (i < m) × (0 < f (kind i)) × (class i ≡ x)

  -- The two fields may use, of the first m lines, lines of the same classes.
  abbrev pub MayUseAlike : ℕ → Field → Field → Type 0
  MayUseAlike m a b = (x : ℕ) → MayUse a m x ↔ MayUse b m x

  -- The marks say of each class whether the field may use one of the first m lines that has it.
  abbrev pub MarksTell : Field → ℕ → List Bool → Type 0
  MarksTell f m marks = (x : ℕ) → (get_or marks x false ≡ true) ↔ MayUse f m x

-- The two fields may use lines of the table of the same classes.
abbrev pub AlikeIn : List ℕ → List ℕ → Field → Field → Type 0
AlikeIn lines classes = MayUseAlike (kind_in lines) (at classes) (lines_in lines)

-- Row k of a flat table of marks: rows at kind times 256.
abbrev pub marks_part : List Bool → ℕ → List Bool
marks_part marks k = take most_lines (drop (k * most_lines) marks)

-- A table of marks, one row to a kind: the classes of the lines of that kind.
pub record KindMarks (lines classes : List ℕ) (marks : List Bool) : Type 0 where
  pub long : length marks ≡ 8192
  pub tells : (k : ℕ) → k < most_kinds → MarksTell (kind_in lines) (at classes) (unit k) (lines_in lines) (marks_part marks k)

-- Each of n kinds that has a norm, and its row, may use lines of the same classes, and so satisfy expansion: "every row must". (A kind that is out has no norm.)
abbrev pub RowsExpand : List ℕ → List ℕ → List ℕ → List ℕ → ℕ → Type 0
RowsExpand lines classes rows norms n = (k : ℕ) → k < n → 0 < at norms k → AlikeIn lines classes (unit k) (row_in rows k)

-- The row of kind k in the table passes the tests of a stage of a sense: it shares with the kind what related fields must, it and the kind may use lines of the same classes of the stage before,
-- and every challenge that lowers the norm has a reply.
pub record Passes (sense : Sense) (lines rows forms classes : List ℕ) (k : ℕ) : Type 0 where
  pub shares : SharesTotal sense (row_in rows k)
  pub uses : AlikeIn lines classes (unit k) (row_in rows k)
  pub answered : Answered lines rows forms k
