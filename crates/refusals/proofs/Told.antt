-- What a result tells, where a contract says what it answers.
use mathlib.Core.Logic.{◌↔◌}
use mathlib.Core.Path.{◌≡◌, sym, ◌∙◌, ap}
use Prim.Native.Nat.{ℕ}
use native.Mathlib.Omega.{arith}
use Rattle.std.specs.Prelude.{Result, Ok, Err}
use Rattle.model.specs.Refusal.{refusal}
use Rattle.model.specs.Answer.{Answer, refused, given}
use Rattle.refusals.specs.declared.Refusal.{Refusal}
use Rattle.refusals.specs.Refusals.{finding_of, answer_of}

module _ {A B : Type 0} (f : A → B) where
  -- It is a refusal just where the answer is one, of the same number and place.
  pub told_refused : (r : Result A Refusal) {y : Answer B} → answer_of f r ≡ y → (k p : ℕ) → (finding_of r ≡ refusal k p) ↔ (y ≡ refused k p)
  told_refused (Ok x) e k p = (
    (λ h. let z : ◌≡◌ {A = ℕ} 0 1 = cc in absurd (omega arith)),
    (λ h. let z : ◌≡◌ {A = ℕ} 0 1 = cc in absurd (omega arith)),
  )
  told_refused (Err r) e k p = ((λ h. cc), (λ h. cc))

  -- Where no two values stand for the same, it is a value just where the answer is what that stands for.
  pub told_given : ((v w : A) → f v ≡ f w → v ≡ w) → (r : Result A Refusal) {y : Answer B} → answer_of f r ≡ y → (v : A) → (r ≡ Ok v) ↔ (y ≡ given (f v))
  told_given only (Ok x) e v = ((λ h. let z : x ≡ v = cc in sym e ∙ ap (λ w. given (f w)) z), (λ h. let z : f x ≡ f v = cc in ap Ok (only x v z)))
  told_given only (Err r) e v = (
    (λ h. let z : ◌≡◌ {A = ℕ} 0 1 = cc in absurd (omega arith)),
    (λ h. let z : ◌≡◌ {A = ℕ} 0 1 = cc in absurd (omega arith)),
  )
