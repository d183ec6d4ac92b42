-- The check of two field numbers, and what its finding tells.
use mathlib.Core.Bool.{not}
use mathlib.Core.List.{List, ◌∷◌}
use mathlib.Core.Path.{◌≡◌, refl, sym, ◌∙◌}
use Prim.Native.Nat.{ℕ, ◌≤◌, ◌<◌}
use native.Mathlib.Decide.{dec_lt}
use native.Mathlib.Omega.{arith}
use lib.Dec.{ltb}
use Rattle.std.specs.Prelude.{Result, Ok, Err}
use Rattle.model.specs.Refusal.{Check, check, clear, refusal, first_of}
use Rattle.model.specs.Answer.{refused, given}
use Rattle.refusals.specs.declared.Refusal.{Refusal}
use Rattle.refusals.specs.Refusals.{number_of, place_of, answer_of}
use Rattle.sheet.specs.declared.reader.Card.{Card}
use Rattle.theory.proofs.Sheets.{clear_nil}
use Rattle.theory.proofs.Checks.{first_left}
use Rattle.validation.specs.Fields.{field_checks, with_fields}
use Rattle.validation.proofs.Checking.{refuses, passes, refused_found, passed_found, past_stops, past_passes}

-- The checks of two field numbers pass where both are small, and leave the checks after them.
pub numbers_pass : (rest : List Check) (fields i j : ℕ) → i < fields → j < fields → first_of (check 11 0 (not (ltb i fields)) ∷ check 11 1 (not (ltb j fields)) ∷ rest) ≡ first_of rest
numbers_pass rest fields i j h l = past_passes 11 0 _ i fields h ∙ past_passes 11 1 _ j fields l

-- What the tests of the code find.
module _ (fields i j : ℕ) where
  pub first_large : fields ≤ i → first_of (field_checks fields i j) ≡ refusal 11 0
  first_large h = past_stops 11 0 _ i fields h

  module _ (h : i < fields) where
    pub second_large : fields ≤ j → first_of (field_checks fields i j) ≡ refusal 11 1
    second_large l = past_passes 11 0 _ i fields h ∙ past_stops 11 1 _ j fields l

    pub both_small : j < fields → first_of (field_checks fields i j) ≡ clear
    both_small l = numbers_pass _ fields i j h l ∙ clear_nil

  -- Where they find nothing, both numbers are small.
  pub fields_passed : first_of (field_checks fields i j) ≡ clear → (i < fields) × (j < fields)
  fields_passed e = go (dec_lt i fields) (dec_lt j fields)
    where
      go : Dec (i < fields) → Dec (j < fields) → (i < fields) × (j < fields)
      go (no h) _ = let z : ◌≡◌ {A = ℕ} 0 1 = cc (first_large (omega arith)) in absurd (omega arith)
      go (yes h) (no l) = let z : ◌≡◌ {A = ℕ} 0 1 = cc (second_large h (omega arith)) in absurd (omega arith)
      go (yes h) (yes l) = (h, l)

  -- Where they find a refusal, it is the first of these and any checks after them.
  pub fields_refused : (rest : List Check) (k p : ℕ) → first_of (field_checks fields i j) ≡ refusal k p → first_of (check 11 0 (not (ltb i fields)) ∷ check 11 1 (not (ltb j fields)) ∷ rest) ≡ refusal k p
  fields_refused rest k p e = first_left (field_checks fields i j) rest k p e

-- A sheet that its own checks refused stays refused.
pub stays_refused : (i j : ℕ) (checked : Result Card Refusal) (e : Refusal) → checked ≡ Err e → refused (number_of e) (place_of e) ≡ with_fields i j (answer_of (λ d. d) checked)
unfolding with_fields
stays_refused i j checked e h = rw h refl

-- Of a sheet that passed its own checks: what the check of the two numbers answers.
module _ (i j : ℕ) (c : Card) where
  module _ (checked : Result Card Refusal) (e : checked ≡ Ok c) where
    pub first_stops : c.fields ≤ i → refused 11 0 ≡ with_fields i j (answer_of (λ d. d) checked)
    unfolding with_fields
    first_stops h = rw e (refuses c _ 11 0 (first_large c.fields i j h))

    pub second_stops : i < c.fields → c.fields ≤ j → refused 11 1 ≡ with_fields i j (answer_of (λ d. d) checked)
    unfolding with_fields
    second_stops h l = rw e (refuses c _ 11 1 (second_large c.fields i j h l))

    pub both_pass : i < c.fields → j < c.fields → given c ≡ with_fields i j (answer_of (λ d. d) checked)
    unfolding with_fields
    both_pass h l = rw e (passes c c _ refl (both_small c.fields i j h l))

  -- What an answer tells of the two numbers: they are small, or the check refuses them.
  pub numbers_passed : (d : Card) → given d ≡ with_fields i j (given c) → first_of (field_checks c.fields i j) ≡ clear
  unfolding with_fields
  numbers_passed d e = (passed_found c _ d (sym e)).1

  pub numbers_refused : (k p : ℕ) → refused k p ≡ with_fields i j (given c) → first_of (field_checks c.fields i j) ≡ refusal k p
  unfolding with_fields
  numbers_refused k p e = refused_found c _ k p (sym e)
