-- What a test of parts comes to.
-- Assumes nothing.
use mathlib.Core.Bool.{Bool, true, false}
use mathlib.Core.Logic.{◌↔◌}
use mathlib.Core.Path.{◌≡◌}
use Prim.Native.Nat.{ℕ}
use native.Mathlib.Omega.{arith}

-- A test does not say both.
pub not_both : {r : Bool} → r ≡ false → r ≡ true → ⊥
not_both e h = let z : ◌≡◌ {A = ℕ} 0 1 = cc in omega arith

-- A part that holds adds nothing to a test.
pub tells_first : {r : Bool} {A B : Type 0} → B → (r ≡ true) ↔ A → (r ≡ true) ↔ (A × B)
tells_first b t = (λ e. (t.0 e, b), λ w. t.1 w.0)

pub tells_second : {r : Bool} {A B : Type 0} → A → (r ≡ true) ↔ B → (r ≡ true) ↔ (A × B)
tells_second a t = (λ e. (a, t.0 e), λ w. t.1 w.1)
