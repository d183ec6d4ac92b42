-- The checks of norms by the lowest kinds that fail them, and what all the checks come to.
use mathlib.Core.Bool.{Bool, true, false}
use mathlib.Core.List.{List, ◌++◌}
use mathlib.Core.Path.{◌≡◌, refl, sym, ◌∙◌, ap, ap₂, fun_ext}
use Prim.Native.Nat.{ℕ, suc, ◌+◌, ◌<◌, min}
use native.Mathlib.Decide.{dec_lt, ℕ_discrete}
use native.Mathlib.Omega.{arith}
use borrow.Author.Tests.{eq-eqb, ne_eqb, lt-ltb, le-ltb}
use lib.Dec.{eqb, ltb}
use Rattle.model.specs.Finite.{both, list_from}
use Rattle.model.specs.Field.{at}
use Rattle.model.specs.Card as model
use Rattle.model.specs.Norm.{kind_norm}
use Rattle.model.specs.Sheet.{kind_count, card_of}
use Rattle.model.specs.Limits.{most_kinds, norm_limit}
use Rattle.model.specs.Refusal.{Check, check, Finding, clear, refusal, first_of, sheet_checks, norm_checks, accept_checks, Accepted}
use Rattle.model.specs.Answer.{Answer, refused, given}
use Rattle.theory.proofs.Checks.{each_clear, first_of_each, first_left, first_right}
use Rattle.theory.proofs.Sheets.{sheet_clear}
use Rattle.theory.proofs.Limits.{limit_of}
use Rattle.sheet.specs.Reader.{header_of, Reads}
use Rattle.validation.specs.Outcome.{checked_of}
use Rattle.sheet.specs.declared.reader.Card.{Card}
use Rattle.validation.proofs.Checking.{refused_found, passed_found}
use Rattle.sheet.proofs.Laws.{kinds_are, kinds_most}
use Rattle.acceptance.specs.declared.accept.Acceptance.{Acceptance}
use Rattle.norms.specs.Norms.{array_of, cut_norms, norms_of, Accepts}
use Rattle.acceptance.specs.Acceptance.{norm_checks_by, accepted_with, acceptance_of}
use Rattle.norms.proofs.Arrays.{array_at}
use Rattle.norms.proofs.Laws.{kind_norm_past}

-- A check at each of n places is decided by the lowest that applies.
module _ (number : ℕ) (p : ℕ → Bool) (n : ℕ) where
  lowest_stops : (i : ℕ) → i < n → p i ≡ true → ((k : ℕ) → k < i → p k ≡ false) → first_of (list_from (λ k. check number k (p k)) 0 n) ≡ refusal number i
  lowest_stops i h t none =
      let z : 0 + i ≡ i = omega arith in
      rw z at (first_of_each (λ k. check number k (p k)) 0 n i h (λ q l. let y : 0 + q ≡ q = omega arith in rw (y, none q l) (λ x. x)) (rw (z, t) tt))

  none_passes : ((k : ℕ) → k < n → p k ≡ false) → first_of (list_from (λ k. check number k (p k)) 0 n) ≡ clear
  none_passes none = each_clear number p 0 n (λ j l. let z : 0 + j ≡ j = omega arith in rw (z, none j l) (λ x. x))

-- Checks 9 and 10 by the lowest kinds, under any marks and norms.
module _ (r : ℕ → Bool) (w : ℕ → ℕ) (n : ℕ) where
  abbrev missing : ℕ → Bool
  missing k = both (r k) (eqb (w k) 0)

  abbrev over : ℕ → Bool
  over k = ltb norm_limit (w k)

  pub missing_stops : (i : ℕ) → i < n → missing i ≡ true → ((k : ℕ) → k < i → missing k ≡ false) → first_of (norm_checks_by r w n) ≡ refusal 9 i
  unfolding norm_checks_by
  missing_stops i h t none = first_left _ _ 9 i (lowest_stops 9 missing n i h t none)

  module _ (normed : (k : ℕ) → k < n → missing k ≡ false) where
    pub over_stops : (i : ℕ) → i < n → over i ≡ true → ((k : ℕ) → k < i → over k ≡ false) → first_of (norm_checks_by r w n) ≡ refusal 10 i
    unfolding norm_checks_by
    over_stops i h t none = first_right _ _ (none_passes 9 missing n normed) ∙ lowest_stops 10 over n i h t none

    pub norms_pass : ((k : ℕ) → k < n → over k ≡ false) → first_of (norm_checks_by r w n) ≡ clear
    unfolding norm_checks_by
    norms_pass none = first_right _ _ (none_passes 9 missing n normed) ∙ none_passes 10 over n none

-- A norm cut one past the limit is missing just when it was, and over the limit just when it was.
missing_cut : (x : ℕ) → eqb (min x (suc norm_limit)) 0 ≡ eqb x 0
missing_cut x = go (ℕ_discrete x 0)
  where
    go : Dec (x ≡ 0) → eqb (min x (suc norm_limit)) 0 ≡ eqb x 0
    go (yes e) = eq-eqb (min x (suc norm_limit)) 0 (omega arith) ∙ sym (eq-eqb x 0 e)
    go (no n) = ne_eqb (min x (suc norm_limit)) 0 (λ e. omega arith) ∙ sym (ne_eqb x 0 n)

over_cut : (x : ℕ) → ltb norm_limit (min x (suc norm_limit)) ≡ ltb norm_limit x
over_cut x = go (dec_lt norm_limit x)
  where
    go : Dec (norm_limit < x) → ltb norm_limit (min x (suc norm_limit)) ≡ ltb norm_limit x
    go (yes h) = lt-ltb norm_limit (min x (suc norm_limit)) (omega arith) ∙ sym (lt-ltb norm_limit x h)
    go (no h) = le-ltb norm_limit (min x (suc norm_limit)) (omega arith) ∙ sym (le-ltb norm_limit x (omega arith))

checks_cut : (r : ℕ → Bool) (w : ℕ → ℕ) (n : ℕ) → norm_checks_by r (λ k. min (w k) (suc norm_limit)) n ≡ norm_checks_by r w n
unfolding norm_checks_by
checks_cut r w n =
    ap₂ ◌++◌ (ap (λ (f : ℕ → Check). list_from f 0 n) (fun_ext (λ k. ap (λ b. check 9 k (both (r k) b)) (missing_cut (w k)))))
    (ap (λ (f : ℕ → Check). list_from f 0 n) (fun_ext (λ k. ap (check 10 k) (over_cut (w k)))))

-- A norm over the limit is that of a reached kind: one that is out has 0.
over_reached : (c : model.Card) (k : ℕ) → ltb norm_limit (kind_norm c k) ≡ both (model.reached c k) (ltb norm_limit (kind_norm c k))
unfolding kind_norm
over_reached c k = go (model.reached c k) refl
  where
    go : (b : Bool) → model.reached c k ≡ b → ltb norm_limit (kind_norm c k) ≡ both b (ltb norm_limit (kind_norm c k))
    go true e = refl
    go false e = rw (e, kind_norm) (le-ltb norm_limit 0 (omega arith))

-- What all the checks come to.
module _ (s : List ℕ) where
  pub accept_refused : (k p : ℕ) → first_of (accept_checks s) ≡ refusal k p → refused k p ≡ acceptance_of s
  unfolding acceptance_of
  accept_refused k p e = rw (e, acceptance_of) refl

  pub accept_clear : Accepted s → given (accepted_with s) ≡ acceptance_of s
  unfolding Accepted acceptance_of
  accept_clear e = rw (e, acceptance_of) refl

  -- Where 1 to 8 decide.
  pub sheet_refused : (k p : ℕ) → checked_of s ≡ refused k p → refused k p ≡ acceptance_of s
  unfolding checked_of
  sheet_refused k p e = accept_refused k p (first_left (sheet_checks s) (norm_checks s) k p (refused_found (header_of s) (first_of (sheet_checks s)) k p e))

  pub sheet_read : (c : Card) → checked_of s ≡ given c → Reads s c
  unfolding checked_of
  sheet_read c e = let t = passed_found (header_of s) (first_of (sheet_checks s)) c e in record { header = t.0; passed = t.1 }

-- Where 9 and 10 decide.
module _ {s : List ℕ} {c : Card} (R : Reads s c) where
  cut_at : at (cut_norms s) ≡ (λ k. min (kind_norm (card_of s) k) (suc norm_limit))
  unfolding cut_norms
  cut_at = array_at most_kinds (λ k. min (kind_norm (card_of s) k) (suc norm_limit)) (λ k h. omega (arith, kind_norm_past R k (omega (arith, kinds_most R))))

  by_norms : norm_checks_by (model.reached (card_of s)) (at (cut_norms s)) c.kinds ≡ norm_checks s
  unfolding norm_checks_by norm_checks
  by_norms =
      ap₂ (norm_checks_by (model.reached (card_of s))) cut_at (kinds_are R)
      ∙ checks_cut (model.reached (card_of s)) (kind_norm (card_of s)) (kind_count s)
      ∙ ap (λ (f : ℕ → Check). list_from (λ k. check 9 k (both (model.reached (card_of s) k) (eqb (kind_norm (card_of s) k) 0))) 0 (kind_count s) ++ list_from f 0 (kind_count s))
      (fun_ext (λ k. ap (check 10 k) (over_reached (card_of s) k)))

  norms_decide : first_of (accept_checks s) ≡ first_of (norm_checks_by (model.reached (card_of s)) (at (cut_norms s)) c.kinds)
  norms_decide = first_right (sheet_checks s) (norm_checks s) R.passed ∙ ap first_of (sym by_norms)

  -- The norms of an accepted sheet are not cut.
  pub norms_uncut : Accepted s → cut_norms s ≡ norms_of s
  unfolding cut_norms norms_of
  norms_uncut ok = ap array_of (fun_ext (λ k. go k (dec_lt k (kind_count s))))
    where
      go : (k : ℕ) → Dec (k < kind_count s) → min (kind_norm (card_of s) k) (suc norm_limit) ≡ kind_norm (card_of s) k
      go k (yes h) = omega (arith, limit_of s ok k h)
      go k (no h) = omega (arith, kind_norm_past R k (omega (arith, kinds_are R)))

  -- By the marks and the norms that were found.
  module _ (marks : ℕ → Bool) (told : (k : ℕ) → marks k ≡ model.reached (card_of s) k) (norms : List ℕ) (cut : norms ≡ cut_norms s) where
    abbrev finding : Finding
    finding = first_of (norm_checks_by marks (at norms) c.kinds)

    found : first_of (accept_checks s) ≡ finding
    found = rw (cut, fun_ext told) norms_decide

    pub norms_refused : (k p : ℕ) → finding ≡ refusal k p → refused k p ≡ acceptance_of s
    norms_refused k p e = accept_refused s k p (found ∙ e)

    pub norms_passed : finding ≡ clear → given (record { card = c; norms = norms }) ≡ acceptance_of s
    unfolding Accepted accepted_with
    norms_passed e =
        let ok : Accepted s = found ∙ e in
        rw (R.header, cut ∙ norms_uncut ok) (accept_clear s ok)

-- What an acceptance tells.
pub accepts : (s : List ℕ) (a : Acceptance) → given a ≡ acceptance_of s → Accepts s a.card a.norms
unfolding acceptance_of accepted_with Accepted
accepts s a e = go (first_of (accept_checks s)) refl e
  where
    go : (f : Finding) → first_of (accept_checks s) ≡ f → given a ≡ (elim f as (λ _. Answer Acceptance) [ clear ↦ given (accepted_with s) | refusal k p ↦ refused k p ]) → Accepts s a.card a.norms
    go clear d q =
        let w : a ≡ accepted_with s = cc in
        rw w (record { reads = record { header = refl; passed = sheet_clear s d }; accepted = d; norms_are = refl })
    go (refusal k p) d q = let z : ◌≡◌ {A = ℕ} 0 1 = cc in absurd (omega arith)

-- What a refusal tells.
pub found_refused : (s : List ℕ) (k p : ℕ) → refused k p ≡ acceptance_of s → first_of (accept_checks s) ≡ refusal k p
unfolding acceptance_of
found_refused s k p e = go (first_of (accept_checks s)) e
  where
    go : (f : Finding) → refused k p ≡ (elim f as (λ _. Answer Acceptance) [ clear ↦ given (accepted_with s) | refusal i q ↦ refused i q ]) → f ≡ refusal k p
    go clear h = let z : ◌≡◌ {A = ℕ} 0 1 = cc in absurd (omega arith)
    go (refusal i q) h = cc
