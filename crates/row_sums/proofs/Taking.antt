-- A row taken away from counts, a count at a time.
use mathlib.Core.List.{List}
use mathlib.Core.Path.{◌≡◌, refl}
use Prim.Native.Nat.{ℕ, ◌≤◌}
use native.Mathlib.Omega.{arith}
use lib.ListN.{length, replicate}
use Rattle.model.specs.Field.{◌⊕◌, at}
use Rattle.model.specs.Limits.{most_kinds}
use Rattle.tables.proofs.Tables.{Agree, agree_none, zero_counts}

-- The counts below i are less the row's, and no others are set.
pub record Taken (counts row left : List ℕ) (i : ℕ) : Type 0 where
  pub within : i ≤ most_kinds
  pub room : length left ≡ most_kinds
  pub agree : Agree (at left ⊕ at row) (at counts) i
  pub rest : (j : ℕ) → i ≤ j → at left j ≡ 0

pub taken_none : {counts row : List ℕ} → Taken counts row (replicate most_kinds 0) 0
taken_none = record { within = omega arith; room = refl; agree = agree_none; rest = λ j _. zero_counts most_kinds j }
