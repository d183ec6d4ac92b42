-- "N + 1 + (s - 1)(g + 1), or N + 1 if s is 0"
use mathlib.Core.Path.{◌≡◌, refl, sym}
use Prim.Native.Nat.{ℕ, ◌+◌, ◌-◌, ◌*◌, ◌≤◌, ◌<◌, min}
use native.Mathlib.Omega.{arith}
use Rattle.model.specs.Norm.{kind_norm, norm}
use Rattle.model.specs.Card.{Card}
use Rattle.model.specs.Field.{Field}
use Rattle.model.specs.Base.{rounds_for, rounds_at, gain}
use Rattle.model.proofs.Plain.{plain}

pub rounds_none : (N g s : ℕ) → s ≡ 0 → N + 1 ≡ rounds_for N g s
rounds_none N g s e = rw e (sym (plain.rounds_none N g))

pub rounds_some : (N g s : ℕ) → (s ≡ 0 → ⊥) → N + 1 + (s - 1) * (g + 1) ≡ rounds_for N g s
rounds_some N g s n = sym (plain.rounds_some N g s (omega arith))

-- The rounds that a stage reports for two fields, by the smaller of their norms and g.
pub rounds_by : (c : Card) (t : ℕ) (a b : Field) (x y g : ℕ) → x ≡ norm c a → y ≡ norm c b → g ≡ gain c
    → rounds_for (min x y) g t ≡ rounds_at c (kind_norm c) t a b
unfolding rounds_at
rounds_by c t a b x y g p q r = rw (p, q, r) refl

pub smaller : (x y : ℕ) → x < y → min x y ≡ x
smaller x y h = omega arith

pub other_smaller : (x y : ℕ) → y ≤ x → min x y ≡ y
other_smaller x y h = omega arith
