-- Flat tables of counts, 32 to a row, read as fields: the rows of a base, and the forms of what the lines leave.
use Rattle.std.specs.Prelude.{Bool, true, false, List, ◌++◌, ◌↔◌, ◌≡◌, ℕ, ◌+◌, ◌*◌, ◌^◌, ◌≤◌, ◌<◌, length, get_or, take, drop, replicate, Option, Some, None}
use Rattle.model.specs.Field.{Field, ◌⊕◌, unit, at, weigh}
use Rattle.model.specs.Limits.{most_kinds}
use Rattle.model.specs.Base.{earlier}

-- Every count is under the bound.
abbrev pub Under : ℕ → List ℕ → Type 0
Under bound xs = (j : ℕ) → at xs j < bound

-- Row k of a flat table, as a list and as a field: "rows at kind times 32".
abbrev pub row_part : {A : Type 0} → List A → ℕ → List A
row_part t k = take most_kinds (drop (k * most_kinds) t)

unfoldable pub row_in : List ℕ → ℕ → Field
row_in t k = at (row_part t k)

-- Of n kinds, one whose own count in its row is 1 is an atom: its row is the kind itself.
abbrev pub Atoms : List ℕ → ℕ → Type 0
Atoms t n = (k : ℕ) → k < n → row_in t k k ≡ 1 → row_in t k ≡ unit k

-- The decomposition of a field of n kinds by the rows of a table.
unfoldable pub form_in : ℕ → List ℕ → Field → Field
form_in n t a j = weigh n (λ k. row_in t k j) a

-- The table with row k replaced by the counts of a list.
unfoldable pub with_row : List ℕ → ℕ → List ℕ → List ℕ
with_row t k r = take (k * most_kinds) t ++ r ++ drop (k * most_kinds + length r) t

-- A candidate for a row, from the forms l and m of what two lines leave and the second's kind: the one field of 32-bit counts that, with m,
-- is one token of the kind with l. Where there is none, none is found and the counts are 0.
pub record IsCandidate (l m : Field) (kind : ℕ) (found : Bool) (counts : List ℕ) : Type 0 where
  pub gives : found ≡ true → at counts ⊕ m ≡ unit kind ⊕ l
  pub only : (b : Field) → ((j : ℕ) → b j < 2 ^ 32) → b ⊕ m ≡ unit kind ⊕ l → (found ≡ true) × (b ≡ at counts)
  pub empty : found ≡ false → counts ≡ replicate most_kinds 0

-- What is told of a candidate: its counts, where there is one.
abbrev pub CandidateIs : Field → Field → ℕ → Option (List ℕ) → Type 0
CandidateIs l m kind (Some counts) = IsCandidate l m kind true counts
CandidateIs l m kind None = IsCandidate l m kind false (replicate most_kinds 0)

-- Whether a kind is done.
abbrev pub is_done : List Bool → ℕ → Bool
is_done done k = get_or done k false

-- The kinds that are done are those of the array that have no norm, as many as a card may have.
pub record WithoutNorm (norms : List ℕ) (done : List Bool) : Type 0 where
  pub long : length done ≡ most_kinds
  pub marks : (k : ℕ) → (is_done done k ≡ true) ↔ ((k < most_kinds) × (at norms k ≡ 0))

-- r is the earliest of the kinds below m that are not done, by norm, then by number; n where all of them are done.
pub record Earliest (w : Field) (done : List Bool) (n m r : ℕ) : Type 0 where
  pub within : r ≤ n
  pub all_done : r ≡ n → (k : ℕ) → k < m → is_done done k ≡ true
  pub here : r < n → (r < m) × (is_done done r ≡ false)
  pub first : r < n → (k : ℕ) → k < m → earlier w k r ≡ true → is_done done k ≡ true

-- What is told of the earliest of the kinds below m that are not done, of n kinds: none where all of them are done.
abbrev pub EarliestIs : Field → List Bool → ℕ → ℕ → Option ℕ → Type 0
EarliestIs w done n m (Some r) = (r < n) × Earliest w done n m r
EarliestIs w done n m None = Earliest w done n m n
