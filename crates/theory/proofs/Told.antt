-- What a call's answer tells: an enum, read through the definition that gives its cases the paper's numbers and values.
use mathlib.Core.Logic.{◌↔◌}
use mathlib.Core.Path.{◌≡◌, refl, sym, ◌∙◌, ap}
use Prim.Native.Nat.{ℕ}
use native.Mathlib.Omega.{arith}
use Rattle.model.specs.Refusal.{Finding, clear, refusal}
use Rattle.model.specs.Answer.{Answer, refused, given, Lent}

-- Where no two cases have one value, an answer is a case just when the value that the contract gives it is that of the case.
pub told : {A B : Type 0} (f : A → B) → ((v w : A) → f v ≡ f w → v ≡ w) → {y : B} (v : A) → f v ≡ y → (w : A) → (v ≡ w) ↔ (y ≡ f w)
told f only v e w = ((λ h. sym e ∙ ap f h), (λ h. only v w (e ∙ h)))

-- A call is refused just as its checks find.
module _ {X A : Type 0} (answer : X → Answer A) (x : X) (r : ℕ → ℕ → X) (a : A) (gives : answer x ≡ given a) (refuses : (k p : ℕ) → answer (r k p) ≡ refused k p) where
  given_not : (k p : ℕ) → ◌≡◌ {A = Answer A} (given a) (refused k p) → ◌≡◌ {A = Finding} clear (refusal k p)
  given_not k p e = let z : ◌≡◌ {A = ℕ} 0 1 = cc in absurd (omega arith)

  clear_not : (k p : ℕ) → ◌≡◌ {A = Finding} clear (refusal k p) → answer x ≡ refused k p
  clear_not k p e = let z : ◌≡◌ {A = ℕ} 0 1 = cc in absurd (omega arith)

  same_refusal : (j q k p : ℕ) → ◌≡◌ {A = Answer A} (refused j q) (refused k p) → refusal j q ≡ refusal k p
  same_refusal j q k p e = let h : j ≡ k = cc in let l : q ≡ p = cc in cc

  same_refused : (j q k p : ℕ) → refusal j q ≡ refusal k p → ◌≡◌ {A = Answer A} (refused j q) (refused k p)
  same_refused j q k p e = let h : j ≡ k = cc in let l : q ≡ p = cc in cc

  pub found : (f : Finding) (k p : ℕ) → (answer (elim f as (λ _. X) [ clear ↦ x | refusal k p ↦ r k p ]) ≡ refused k p) ↔ (f ≡ refusal k p)
  found clear k p = ((λ e. given_not k p (sym gives ∙ e)), clear_not k p)
  found (refusal j q) k p = ((λ e. same_refusal j q k p (sym (refuses j q) ∙ e)), (λ e. refuses j q ∙ same_refused j q k p e))

-- What the checks of a call find is clear where it is no refusal.
pub cleared : (f : Finding) → ((k p : ℕ) → ¬ (f ≡ refusal k p)) → f ≡ clear
cleared clear h = refl
cleared (refusal k p) h = absurd (h k p refl)

-- The parts of what a call leaves.
pub answer_of_lem : {A : Type 0} {x y : Lent A} → x ≡ y → x.answer ≡ y.answer
answer_of_lem e = ap (λ z. z.answer) e

pub lent_of : {A : Type 0} {x y : Lent A} → x ≡ y → x.lent ≡ y.lent
lent_of e = ap (λ z. z.lent) e

-- What a call's contract asks, from what the call comes to.
pub gives : {A : Type 0} {x y : Lent A} → x ≡ y → (y.answer ≡ x.answer) × (y.lent ≡ x.lent)
gives e = (ap (λ z. z.answer) (sym e), ap (λ z. z.lent) (sym e))
