-- The values of the kinds as an array, and what they make of a read: what the contracts over plain arrays cite.
use Rattle.std.specs.Prelude.{true, false, List, ℕ, suc, ◌≤◌, eqb}
use Rattle.model.specs.Field.{Field, weigh, at}
use Rattle.model.specs.Norm.{ready, sooner}

-- No value of the array passes the bound.
abbrev pub AtMost : ℕ → List ℕ → Type 0
AtMost bound values = (k : ℕ) → at values k ≤ bound

-- One read and the values of what it leaves; 0 where a kind of it has no value.
unfoldable pub read_value : ℕ → (ℕ → ℕ) → Field → ℕ
read_value n w a = elim (ready n w a) [ true ↦ suc (weigh n w a) | false ↦ 0 ]

-- The lesser of two values, where 0 is none.
unfoldable pub lesser_of : ℕ → ℕ → ℕ
lesser_of x y = elim (eqb x 0) [ true ↦ y | false ↦ sooner x y ]
