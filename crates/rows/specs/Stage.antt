-- Lines at a stage, by the rows and the forms of stage q + 1: which of them match, and which of them two fields may use. What the tables hold at a stage.
use Rattle.std.specs.Prelude.{List, ◌↔◌, ◌≡◌, ℕ, suc, ◌<◌}
use Rattle.model.specs.Field.{Field, ◌⊕◌, unit, at}
use Rattle.model.specs.Card.{Line, Card}
use Rattle.model.specs.Norm.{kind_norm, norm}
use Rattle.model.specs.Sense.{Sense}
use Rattle.model.specs.Base.{stage_row_in, stage_form_in}
use Rattle.model.specs.Sheet.{kind_count, line_count, line_of, card_of}
use Rattle.tables.specs.Table.{row_in}
use Rattle.tables.specs.Lines.{lines_in, kind_in, code_in, LowersIn}
use Rattle.tables.specs.Match.{Match, Usable, Bounds, TellsMatch}
use Rattle.tables.specs.Class.{MayUseAlike}

-- b is the candidate for the row of l's kind that the lines l and m tell, over lines of any type with any kinds and forms: m's kind and what l leaves, less what m leaves, in atoms.
abbrev pub Told : {A : Type 0} → (A → ℕ) → (A → Field) → A → A → Field → Type 0
Told kind form l m b = b ⊕ form m ≡ unit (kind m) ⊕ form l

module _ (sense : Sense) (c : Card) where
  -- The form, at stage q + 1, of what a line leaves.
  abbrev pub left_form : ℕ → Line → Field
  left_form q l = stage_form_in sense c (suc q) l.left

  -- b is the candidate that two lines of a card tell, by the forms of stage q + 1.
  abbrev pub ToldAt : ℕ → Line → Line → Field → Type 0
  ToldAt q = Told (λ l. l.kind) (left_form q)

  -- Two lines of a card match, by any rows of the kinds and the forms of stage q + 1.
  abbrev pub MatchBy : ℕ → (ℕ → Field) → Line → Line → Type 0
  MatchBy q row = Match (λ l. l.kind) (λ l. l.code) row (left_form q)

  -- Two lines of a card match at stage q + 1, by its rows and forms: wherever two fields of equal forms may use them, they read one code and leave equal forms.
  abbrev pub MatchAt : ℕ → Line → Line → Type 0
  MatchAt q = MatchBy q (stage_row_in sense c (suc q))

module _ (s : List ℕ) where
  -- The kind of line j of the sheet.
  abbrev pub line_kind : ℕ → ℕ
  line_kind j = (line_of s j).kind

  -- Line j is one of the sheet's, and is one of the "reads that lower the norm".
  abbrev pub LowersAt : ℕ → Type 0
  LowersAt j = (j < line_count s) × (norm (card_of s) (line_of s j).left < kind_norm (card_of s) (line_of s j).kind)

  -- Line j is one of the sheet's that lowers the norm and that the field may use.
  abbrev pub UsableAt : Field → ℕ → Type 0
  UsableAt = Usable LowersAt line_kind

  -- The two fields may use lines of the same classes.
  abbrev pub AlikeAt : List ℕ → Field → Field → Type 0
  AlikeAt classes = MayUseAlike line_kind (at classes) (line_count s)

  -- The table holds the lines, read once: their kinds, their codes, and which of them lower the norm.
  pub record LinesAre (lines : List ℕ) : Type 0 where
    pub long : lines_in lines ≡ line_count s
    pub kind_is : (j : ℕ) → j < line_count s → kind_in lines j ≡ (line_of s j).kind
    pub code_is : (j : ℕ) → j < line_count s → code_in lines j ≡ (line_of s j).code
    pub lowers_is : (j : ℕ) → j < line_count s → LowersIn lines j ↔ LowersAt j

-- At a stage of a sense.
module _ (sense : Sense) (s : List ℕ) where
  -- Lines i and j of the sheet match at stage q + 1.
  abbrev pub LinesMatch : ℕ → ℕ → ℕ → Type 0
  LinesMatch q i j = MatchAt sense (card_of s) q (line_of s i) (line_of s j)

  -- A number for each line, its class, tells which lines match.
  abbrev pub Classes : ℕ → List ℕ → Type 0
  Classes q classes = TellsMatch (LinesMatch q) (line_count s) classes

  -- A bound for each line: it is no later than the line, and no line before it matches the line.
  abbrev pub BoundsAt : ℕ → List ℕ → Type 0
  BoundsAt q bounds = Bounds (LinesMatch q) (line_count s) bounds

  -- "A base at a stage gives each kind the counts" of the table's row. Stages here are from 1 up.
  abbrev pub BaseAt : ℕ → List ℕ → Type 0
  BaseAt t rows = (k : ℕ) → k < kind_count s → row_in rows k ≡ stage_row_in sense (card_of s) t k

  -- The table's rows are the decompositions, at a stage, of what the lines leave.
  abbrev pub FormsAt : ℕ → List ℕ → Type 0
  FormsAt t forms = (j : ℕ) → j < line_count s → row_in forms j ≡ stage_form_in sense (card_of s) t (line_of s j).left
