-- Marks on kinds, as a list: which kinds are marked, what is added to the marks, and the next marked kind that is not done.
use Rattle.std.specs.Prelude.{Bool, true, false, List, ◌⊎◌, ◌≡◌, ℕ, ◌<◌, length, get_or}

-- The kind is marked.
abbrev pub Marked : List Bool → ℕ → Type 0
Marked marks k = get_or marks k false ≡ true

-- The kinds marked in the new list are those marked in the old one and those that P holds of.
pub record Adds (P : ℕ → Type 0) (old new : List Bool) : Type 0 where
  pub kept : (k : ℕ) → Marked old k → Marked new k
  pub added : (k : ℕ) → P k → Marked new k
  pub only : (k : ℕ) → Marked new k → Marked old k ⊎ P k

-- Every marked kind is done.
abbrev pub AllDone : List Bool → List Bool → Type 0
AllDone marks done = (k : ℕ) → Marked marks k → Marked done k

-- r is the first kind that is marked and not done.
pub record Next (marks done : List Bool) (r : ℕ) : Type 0 where
  pub within : r < length marks
  pub here : Marked marks r × (get_or done r false ≡ false)
  pub first : (k : ℕ) → k < r → Marked marks k → Marked done k
