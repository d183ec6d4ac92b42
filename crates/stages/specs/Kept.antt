-- What is kept of the stages: of each kind its mark, the first stage at which its row became the one that it is, and its row at the stage before that one.
use Rattle.std.specs.Prelude.{true, false, List, ◌≡◌, ℕ, suc, ◌≤◌, ◌<◌, eqb}
use Rattle.model.specs.Sense.{Sense}
use Rattle.model.specs.Field.{Field, unit, at, weigh}
use Rattle.model.specs.Limits.{most_kinds}
use Rattle.model.specs.Base.{stage_row_in, stage_since_in}
use Rattle.model.specs.Sheet.{kind_count, card_of}
use Rattle.tables.specs.Table.{row_in}

-- Kind k is kept: where the two tables have another row for it, it is marked with this stage, and its row before is kept; where they have the same, its mark and what was kept are as they were.
pub data AsKept (before after : List ℕ) (stage k : ℕ) (since rows newSince newRows : List ℕ) : Type 0 where
  marked : ¬ (row_in before k ≡ row_in after k) → at newSince k ≡ stage → row_in newRows k ≡ row_in before k → AsKept before after stage k since rows newSince newRows
  left : row_in before k ≡ row_in after k → at newSince k ≡ at since k → row_in newRows k ≡ row_in rows k → AsKept before after stage k since rows newSince newRows

-- Kind k is kept, and the marks and rows of all others are as they were.
pub record KindKept (before after : List ℕ) (stage k : ℕ) (since rows newSince newRows : List ℕ) : Type 0 where
  pub here : AsKept before after stage k since rows newSince newRows
  pub others : (i : ℕ) → ¬ (i ≡ k) → (at newSince i ≡ at since i) × (row_in newRows i ≡ row_in rows i)

-- The first m kinds are kept, and the marks and rows of all others are as they were.
pub record KeptFrom (before after : List ℕ) (stage m : ℕ) (since rows newSince newRows : List ℕ) : Type 0 where
  pub each : (k : ℕ) → k < m → AsKept before after stage k since rows newSince newRows
  pub others : (k : ℕ) → m ≤ k → (at newSince k ≡ at since k) × (row_in newRows k ≡ row_in rows k)

-- What is kept of the stages 1 to t: the marks are "for each kind, the first stage, from 1 up, at which its row became the one" that it is at stage t, and before stage 1 there are none; and what is kept of a
-- kind is its row at the stage before its mark.
pub record KeptTo (sense : Sense) (s : List ℕ) (t : ℕ) (since rows : List ℕ) : Type 0 where
  pub marks : (k : ℕ) → k < kind_count s → 1 ≤ t → at since k ≡ stage_since_in sense (card_of s) t k
  pub none : t ≡ 0 → (k : ℕ) → at since k ≡ 0
  pub before : (k q : ℕ) → k < kind_count s → at since k ≡ suc (suc q) → row_in rows k ≡ stage_row_in sense (card_of s) (suc q) k

-- What stands for an atom of a stage at the stage before: its row there where it is new, else the kind itself.
unfoldable pub row_before : List ℕ → List ℕ → ℕ → ℕ → Field
row_before since rows stage k = elim (eqb (at since k) stage) [ true ↦ row_in rows k | false ↦ unit k ]

-- The form at the stage before, from that at a stage.
unfoldable pub form_before : List ℕ → List ℕ → ℕ → Field → Field
form_before since rows stage form j = weigh most_kinds (λ k. row_before since rows stage k j) form
