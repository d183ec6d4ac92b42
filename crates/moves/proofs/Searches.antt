-- Laws of the search for the next number that passes a test.
use mathlib.Core.Bool.{Bool, true, false}
use mathlib.Core.Path.{◌≡◌, refl, sym, ap, ◌∙◌}
use Prim.Native.Nat.{ℕ, zero, suc, ◌+◌, ◌-◌, ◌≤◌, ◌<◌}
use native.Mathlib.Omega.{arith}
use Rattle.model.specs.Finite.{least_from}

-- The search by its first number: that passes, or the search goes on, or there is none.
module _ (p : ℕ → Bool) (line to : ℕ) where
  pub least_next : line < to → p line ≡ false → least_from p line (to - line) ≡ least_from p (line + 1) (to - (line + 1))
  unfolding least_from
  least_next h f =
      let e : to - line ≡ suc (to - (line + 1)) = omega arith in
      let d : suc line ≡ line + 1 = omega arith in
      rw (e, f, least_from) (ap (λ (i : ℕ). least_from p i (to - (line + 1))) d)

  pub least_here : line < to → p line ≡ true → least_from p line (to - line) ≡ line
  unfolding least_from
  least_here h t = let e : to - line ≡ suc (to - (line + 1)) = omega arith in rw (e, t, least_from) refl

  pub least_last : to ≤ line → least_from p line (to - line) ≡ line
  unfolding least_from
  least_last h = let e : to - line ≡ 0 = omega arith in rw e refl

-- Numbers that do not pass are passed over.
module _ (p : ℕ → Bool) (to : ℕ) where
  over : (many from : ℕ) → from + many ≤ to → ((j : ℕ) → from ≤ j → j < from + many → p j ≡ false)
      → least_from p from (to - from) ≡ least_from p (from + many) (to - (from + many))
  over zero from h f = let e : from ≡ from + 0 = omega arith in ap (λ (i : ℕ). least_from p i (to - i)) e
  over (suc many) from h f =
      let e : from + 1 + many ≡ from + suc many = omega arith in
      least_next p from to (omega arith) (f from (omega arith) (omega arith))
      ∙ over many (from + 1) (omega arith) (λ j a b. f j (omega arith) (omega arith))
      ∙ ap (λ (i : ℕ). least_from p i (to - i)) e

  pub least_over : (from line : ℕ) → from ≤ line → line ≤ to → ((j : ℕ) → from ≤ j → j < line → p j ≡ false) → least_from p from (to - from) ≡ least_from p line (to - line)
  least_over from line a b f =
      let e : from + (line - from) ≡ line = omega arith in
      over (line - from) from (omega arith) (λ j u v. f j u (omega arith)) ∙ ap (λ (i : ℕ). least_from p i (to - i)) e

-- None of the numbers before `line` passes.
module _ (p : ℕ → Bool) (from to : ℕ) where
  pub record Searching (line : ℕ) : Type 0 where
    pub within : line ≤ to
    pub same : least_from p line (to - line) ≡ least_from p from (to - from)

  pub searching_starts : from ≤ to → Searching from
  searching_starts h = record { within = h; same = refl }

  module _ (line : ℕ) (so_far : Searching line) where
    pub searching_on : line < to → p line ≡ false → Searching (line + 1)
    searching_on h f = record { within = omega arith; same = sym (least_next p line to h f) ∙ so_far.same }

    pub searching_found : line < to → p line ≡ true → line ≡ least_from p from (to - from)
    searching_found h t = sym (least_here p line to h t) ∙ so_far.same

    pub searching_ends : to ≤ line → line ≡ least_from p from (to - from)
    searching_ends h = sym (least_last p line to h) ∙ so_far.same
