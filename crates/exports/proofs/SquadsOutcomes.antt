-- What Squads comes to, from what the library's function answered.
use mathlib.Core.Bool.{Bool, true, false, not}
use mathlib.Core.List.{List, [], ◌∷◌, ◌++◌, append_assoc}
use mathlib.Core.Path.{◌≡◌, refl, sym, ◌∙◌, ap}
use Prim.Native.Nat.{ℕ, ◌≤◌, ◌<◌}
use native.Mathlib.Omega.{arith}
use lib.Dec.{eqb, ltb}
use lib.ListN.{length}
use Rattle.model.specs.Field.{tokens}
use Rattle.model.specs.Sheet.{kind_count, field_count, field_of}
use Rattle.model.specs.Refusal.{Check, Finding, clear, refusal, check, first_of, accept_checks, squads_checks}
use Rattle.model.specs.Answer.{Answer, refused, given, Lent, written, squad_count, remainder_form, squads_of}
use Rattle.theory.proofs.Checks.{first_left, first_right}
use Rattle.theory.proofs.Answers.{demand1}
use Rattle.theory.proofs.Told.{found, cleared, answer_of_lem, lent_of}
use Rattle.arrays.specs.Reply.{code_of, refusing, laid_out}
use Rattle.arrays.specs.Session.{short_code_by}
use Rattle.arrays.proofs.Replies.{reply_refuses, reply_short, reply_gives}
use Rattle.exports.specs.Calls.{count_values, squads_call, short_squads}

module _ (s : List ℕ) (i j : ℕ) where
  -- All checks but that of the buffer.
  before : List Check
  before = accept_checks s ++ (check 11 0 (not (ltb i (field_count s))) ∷ check 11 1 (not (ltb j (field_count s))) ∷ check 17 1 (eqb (tokens (kind_count s) (field_of s j)) 0) ∷ [])

  split : (size : ℕ) → squads_checks s i j size ≡ before ++ (check 12 0 (ltb size (kind_count s)) ∷ [])
  unfolding squads_checks before
  split size = sym (append_assoc (accept_checks s) _ (check 12 0 (ltb size (kind_count s)) ∷ []))

  -- The length of the buffer changes nothing in what is returned where the answer array has no room.
  by_others : (size : ℕ) → short_code_by (first_of (squads_checks s i j size)) ≡ short_code_by (first_of before)
  unfolding first_of
  by_others size = ap (λ (xs : List Check). short_code_by (first_of xs)) (split size) ∙ go (first_of before) refl
    where
      room : (b : Bool) → short_code_by (first_of (check 12 0 b ∷ [])) ≡ code_of 12 0
      room true = refl
      room false = refl

      go : (f : Finding) → first_of before ≡ f → short_code_by (first_of (before ++ (check 12 0 (ltb size (kind_count s)) ∷ []))) ≡ short_code_by f
      go (refusal k p) e = ap short_code_by (first_left before _ k p e)
      go clear e = ap short_code_by (first_right before _ e) ∙ room (ltb size (kind_count s))

  short_any : (size : ℕ) → short_code_by (first_of (squads_checks s i j size)) ≡ short_squads s i j
  short_any size = by_others size ∙ sym (by_others 0)

  module _ (buffer : List ℕ) where
    squads_found : (k p : ℕ) → (squads_of s i j buffer).answer ≡ refused k p → first_of (squads_checks s i j (length buffer)) ≡ refusal k p
    unfolding squads_of
    squads_found k p e =
        (found (λ (x : Lent ℕ). x.answer) (record { answer = given (squad_count s i j); lent = written (remainder_form s i j) buffer }) (λ k p. record { answer = refused k p; lent = buffer })
        (squad_count s i j) refl (λ k p. refl) (first_of (squads_checks s i j (length buffer))) k p).0 e

    squads_clear : (q : ℕ) → (squads_of s i j buffer).answer ≡ given q → first_of (squads_checks s i j (length buffer)) ≡ clear
    squads_clear q e = cleared (first_of (squads_checks s i j (length buffer))) (λ k p d. never k p (sym e ∙ answer_of_lem ((demand1 s).squads_refused i j buffer k p d)))
      where
        never : (k p : ℕ) → ◌≡◌ {A = Answer ℕ} (given q) (refused k p) → ⊥
        never k p e = let z : ◌≡◌ {A = ℕ} 0 1 = cc in omega arith

    -- What is returned where the answer array has no room, from the answer for any buffer.
    pub short_refused : (k p : ℕ) → (squads_of s i j buffer).answer ≡ refused k p → code_of k p ≡ short_squads s i j
    short_refused k p e = sym (ap short_code_by (squads_found k p e)) ∙ short_any (length buffer)

    pub short_given : (q : ℕ) → (squads_of s i j buffer).answer ≡ given q → 12 ≡ short_squads s i j
    short_given q e = sym (ap short_code_by (squads_clear q e)) ∙ short_any (length buffer)

    pub squads_kept : (k p : ℕ) → (squads_of s i j buffer).answer ≡ refused k p → (squads_of s i j buffer).lent ≡ buffer
    squads_kept k p e = lent_of ((demand1 s).squads_refused i j buffer k p (squads_found k p e))

    module _ (array : List ℕ) where
      pub squads_refuses : (k p : ℕ) → (squads_of s i j buffer).answer ≡ refused k p → squads_call s i j buffer array ≡ refusing k p buffer array
      unfolding squads_call
      squads_refuses k p e = reply_refuses buffer (squads_of s i j buffer).lent array _ k p (ap (laid_out count_values) e)

      pub squads_gives : (q : ℕ) → (squads_of s i j buffer).answer ≡ given q → 1 ≤ length array
          → squads_call s i j buffer array ≡ record { code = 0; lent = (squads_of s i j buffer).lent; values = written (count_values q) array }
      unfolding squads_call
      squads_gives q e h = reply_gives buffer (squads_of s i j buffer).lent array (count_values q) _ (ap (laid_out count_values) e) h

      given_short : (q : ℕ) → (squads_of s i j buffer).answer ≡ given q → length array < 1 → squads_call s i j buffer array ≡ refusing 12 0 buffer array
      unfolding squads_call
      given_short q e h = reply_short buffer (squads_of s i j buffer).lent array (count_values q) _ (ap (laid_out count_values) e) h

      -- The answer array has no room.
      pub squads_short : length array < 1 → squads_call s i j buffer array ≡ record { code = short_squads s i j; lent = buffer; values = array }
      squads_short h = go (squads_of s i j buffer).answer refl
        where
          go : (a : Answer ℕ) → (squads_of s i j buffer).answer ≡ a → squads_call s i j buffer array ≡ record { code = short_squads s i j; lent = buffer; values = array }
          go (refused k p) e = squads_refuses k p e ∙ ap (λ (n : ℕ). record { code = n; lent = buffer; values = array }) (short_refused k p e)
          go (given q) e = given_short q e h ∙ ap (λ (n : ℕ). record { code = n; lent = buffer; values = array }) (short_given q e)
