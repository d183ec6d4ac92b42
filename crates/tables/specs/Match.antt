-- Which lines match, and what can be said by it: over lines of any type A with any kinds, codes, rows of kinds and forms, and by the tables of the lines.
use Rattle.std.specs.Prelude.{List, ◌↔◌, ◌≡◌, ℕ, ◌^◌, ◌≤◌, ◌<◌, length}
use Rattle.model.specs.Field.{Field, ◌⊕◌, unit, at}
use Rattle.tables.specs.Table.{Under, row_in}
use Rattle.tables.specs.Lines.{kind_in, code_in, LineTable, LoweringIn}

-- Lines i and j match: they read one code and have the same effect. What the first leaves, with the row of the second's kind, is what the second leaves, with the row
-- of the first's kind.
abbrev pub Match : {A : Type 0} → (A → ℕ) → (A → ℕ) → (ℕ → Field) → (A → Field) → A → A → Type 0
Match kind code row form i j = (code j ≡ code i) × (form i ⊕ row (kind j) ≡ form j ⊕ row (kind i))

-- A line that satisfies P and that the field may use: the field has a token of its kind.
abbrev pub Usable : {A : Type 0} → (A → Type 0) → (A → ℕ) → Field → A → Type 0
Usable P kind f i = P i × (0 < f (kind i))

-- Each line that satisfies P has a match, by M, that satisfies Q.
abbrev pub EachMatched : {A : Type 0} → (A → A → Type 0) → (A → Type 0) → (A → Type 0) → Type 0
EachMatched {A} M P Q = (i : A) → P i → (j : A) × Q j × M i j

-- The lines that satisfy P and those that satisfy Q each have a match among the others.
abbrev pub AllMatched : {A : Type 0} → (A → A → Type 0) → (A → Type 0) → (A → Type 0) → Type 0
AllMatched M P Q = EachMatched M P Q × EachMatched M Q P

-- Of numbered lines and a relation M of them.
module _ (M : ℕ → ℕ → Type 0) where
  -- Line i is no later than line j, and no line before i matches line j.
  pub record NoneBefore (j i : ℕ) : Type 0 where
    pub within : i ≤ j
    pub none : (x : ℕ) → x < i → M x j → ⊥

  -- A bound for each of n lines: no line before it matches the line.
  abbrev pub Bounds : ℕ → List ℕ → Type 0
  Bounds n bounds = (j : ℕ) → j < n → NoneBefore j (at bounds j)

  -- r is the least line that matches line j.
  pub record LeastMatch (j r : ℕ) : Type 0 where
    pub within : r ≤ j
    pub matches : M r j
    pub least : (i : ℕ) → i < r → M i j → ⊥

  -- The numbers of two of n lines are equal just when the lines match.
  abbrev pub TellsMatch : ℕ → List ℕ → Type 0
  TellsMatch n numbers = (i j : ℕ) → i < n → j < n → (at numbers i ≡ at numbers j) ↔ M i j

-- Number i is an entry of the list.
abbrev pub Among : List ℕ → ℕ → Type 0
Among xs i = (x : ℕ) × (x < length xs) × (at xs x ≡ i)

-- The entries of the list are the numbers that satisfy P.
pub record Lists (P : ℕ → Type 0) (xs : List ℕ) : Type 0 where
  pub entries : (i : ℕ) → Among xs i ↔ P i

-- The tables are whole: the lines, a row for each kind, and for each line the form of what it leaves. Every count of a form is so small that its sum with one of a row fits 64 bits.
pub record MatchTables (lines rows forms : List ℕ) : Type 0 where
  pub whole : LineTable lines
  pub rows_long : length rows ≡ 1024
  pub forms_long : length forms ≡ 8192
  pub small : Under (2 ^ 63) forms

-- Two lines of the table match, by the rows and the forms in the tables.
abbrev pub MatchIn : List ℕ → List ℕ → List ℕ → ℕ → ℕ → Type 0
MatchIn lines rows forms = Match (kind_in lines) (code_in lines) (row_in rows) (row_in forms)

-- What the lines do, as one value: the lines, a row for each kind, and for each line the form of what it leaves.
pub record LineEffects : Type 0 where
  pub lines : List ℕ
  pub rows : List ℕ
  pub forms : List ℕ

-- Two lines match by what the lines do.
abbrev pub MatchBy : LineEffects → ℕ → ℕ → Type 0
MatchBy e = MatchIn e.lines e.rows e.forms

-- A line of the table that lowers the norm and that the field may use.
abbrev pub UsableIn : List ℕ → Field → ℕ → Type 0
UsableIn lines = Usable (LoweringIn lines) (kind_in lines)

-- Every challenge that lowers the norm, by kind k or by its row in the table, has a reply by the other that does: "Norm-reducing expansion considers only reads that lower
-- the norm, for challenge and reply alike."
abbrev pub Answered : List ℕ → List ℕ → List ℕ → ℕ → Type 0
Answered lines rows forms k = AllMatched (MatchIn lines rows forms) (UsableIn lines (unit k)) (UsableIn lines (row_in rows k))
