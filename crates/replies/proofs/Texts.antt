-- The texts of calls, from what the calls give; of a call that is answered, how many kinds there are.
use mathlib.Core.List.{List, ◌++◌}
use mathlib.Core.Path.{◌≡◌, refl, sym, ap, ◌∙◌}
use Prim.Native.Nat.{ℕ, ◌≤◌}
use native.Mathlib.Omega.{arith}
use lib.ListN.{take}
use Rattle.model.specs.Limits.{most_kinds}
use Rattle.model.specs.Sheet.{kind_count}
use Rattle.model.specs.Refusal.{Check, Finding, clear, refusal, first_of, accept_checks, Accepted}
use Rattle.model.specs.Answer.{Answer, refused, given, Lent}
use Rattle.text.specs.Count.{counts_line}
use Rattle.theory.proofs.Checks.{first_left}
use Rattle.theory.proofs.Answers.{demand1}
use Rattle.replies.specs.Texts.{worded, lent_text, counts_text}

-- A call that writes counts, by what it gives.
module _ {A : Type 0} (text : A → List ℕ → List ℕ) (n : ℕ) (wrote : Lent A) where
  pub lent_answered : {counts : List ℕ} → counts ≡ wrote.lent → (a : A) → given a ≡ wrote.answer → given (text a (take n counts)) ≡ lent_text text n wrote
  unfolding lent_text worded
  lent_answered lent a e = ap (λ (l : List ℕ). given (text a (take n l))) lent ∙ ap (worded (λ a. text a (take n wrote.lent))) e

  pub lent_refused : (number place : ℕ) → refused number place ≡ wrote.answer → refused number place ≡ lent_text text n wrote
  unfolding lent_text worded
  lent_refused number place e = ap (worded (λ a. text a (take n wrote.lent))) e

module _ (n : ℕ) (wrote : Lent (Unit {0})) where
  pub counts_answered : {counts : List ℕ} → counts ≡ wrote.lent → given tt ≡ wrote.answer → given (counts_line (take n counts)) ≡ counts_text n wrote
  unfolding counts_text
  counts_answered lent e = lent_answered (λ _ l. counts_line l) n wrote lent tt e

  pub counts_refused : (number place : ℕ) → refused number place ≡ wrote.answer → refused number place ≡ counts_text n wrote
  unfolding counts_text
  counts_refused number place e = lent_refused (λ _ l. counts_line l) n wrote number place e

-- A sheet that a call answers is accepted, and so has at most 32 kinds.
few_kinds : (s : List ℕ) → Accepted s → kind_count s ≤ most_kinds
few_kinds s ok = ((demand1 s).accepted.0 ok).kinds.1

passes : (s : List ℕ) (more : List Check) → first_of (accept_checks s ++ more) ≡ clear → Accepted s
unfolding Accepted
passes s more e = go (first_of (accept_checks s)) refl
  where
    go : (f : Finding) → first_of (accept_checks s) ≡ f → f ≡ clear
    go clear d = refl
    go (refusal k p) d = sym (first_left (accept_checks s) more k p d) ∙ e

-- The calls that write to a buffer: what they check after acceptance, and that they answer a refusal with it.
pub answered_few : {A : Type 0} {answer : Answer A} {x : A} (s : List ℕ) (more : List Check)
    → ((k p : ℕ) → first_of (accept_checks s ++ more) ≡ refusal k p → answer ≡ refused k p) → given x ≡ answer → kind_count s ≤ most_kinds
answered_few s more refuses e = go (first_of (accept_checks s ++ more)) refl
  where
    go : (f : Finding) → first_of (accept_checks s ++ more) ≡ f → kind_count s ≤ most_kinds
    go clear d = few_kinds s (passes s more d)
    go (refusal k p) d =
        let r = e ∙ refuses k p d in
        let z : ◌≡◌ {A = ℕ} 0 1 = cc in absurd (omega arith)
