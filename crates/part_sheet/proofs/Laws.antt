-- The reached part of an accepted sheet is an accepted sheet, with the same norms.
use mathlib.Core.Bool.{Bool}
use mathlib.Core.List.{List, ◌++◌}
use mathlib.Core.Path.{◌≡◌, refl, sym, ◌∙◌, ap}
use Prim.Native.Nat.{ℕ}
use lib.Dec.{eqb, ltb}
use lib.ListN.{take}
use Rattle.model.specs.Finite.{both, list_from}
use Rattle.model.specs.Card as model
use Rattle.model.specs.Norm.{kind_norm}
use Rattle.model.specs.Sheet.{kind_count, card_of}
use Rattle.model.specs.Limits.{norm_limit}
use Rattle.model.specs.Refusal.{Check, check, first_of, norm_checks, sheet_checks, Accepted}
use Rattle.theory.proofs.Checks.{both_then}
use Rattle.theory.proofs.Part.{parts, part_reached}
use Rattle.theory.proofs.Sheets.{first_append, then_clear}
use Rattle.sheet.specs.declared.reader.Card.{Card}
use Rattle.norms.specs.Norms.{Accepts, array_of, norms_of}
use Rattle.part_sheet.specs.Part.{size_of, IsPart}

-- 9 and 10 by any norms and marks of n kinds.
checks_by : (ℕ → ℕ) → (ℕ → Bool) → ℕ → List Check
checks_by w r n = list_from (λ k. check 9 k (both (r k) (eqb (w k) 0))) 0 n ++ list_from (λ k. check 10 k (both (r k) (ltb norm_limit (w k)))) 0 n

checks_by_lem : (s : List ℕ) → norm_checks s ≡ checks_by (kind_norm (card_of s)) (model.reached (card_of s)) (kind_count s)
unfolding norm_checks checks_by
checks_by_lem s = refl

module _ {s : List ℕ} {d : Card} {t : List ℕ} (P : IsPart s d t) where
  pub part_kinds : kind_count (take (size_of d) t) ≡ kind_count s
  unfolding card_of
  part_kinds = ap (λ (c : model.Card). c.kinds) P.card_is

  module _ {c : Card} {norms : List ℕ} (A : Accepts s c norms) where
    same_norms : kind_norm (card_of (take (size_of d) t)) ≡ kind_norm (card_of s)
    same_norms = ap kind_norm P.card_is ∙ (parts s A.reads.passed).norms

    same_reached : model.reached (card_of (take (size_of d) t)) ≡ model.reached (card_of s)
    same_reached = ap model.reached P.card_is ∙ part_reached s A.reads.passed

    same_checks : norm_checks (take (size_of d) t) ≡ norm_checks s
    same_checks =
        checks_by_lem (take (size_of d) t) ∙ ap (λ (w : ℕ → ℕ). checks_by w (model.reached (card_of (take (size_of d) t))) (kind_count (take (size_of d) t))) same_norms
        ∙ ap (λ (r : ℕ → Bool). checks_by (kind_norm (card_of s)) r (kind_count (take (size_of d) t))) same_reached
        ∙ ap (checks_by (kind_norm (card_of s)) (model.reached (card_of s))) part_kinds ∙ sym (checks_by_lem s)

    accepted : Accepted (take (size_of d) t)
    unfolding Accepted
    accepted =
        let a = then_clear (first_of (sheet_checks s)) (first_of (norm_checks s)) (sym (first_append (sheet_checks s) (norm_checks s)) ∙ A.accepted) in
        first_append (sheet_checks (take (size_of d) t)) (norm_checks (take (size_of d) t)) ∙ both_then _ _ P.reads.passed (ap first_of same_checks ∙ a.1)

    accepts : Accepts (take (size_of d) t) d norms
    unfolding norms_of
    accepts = record { reads = P.reads; accepted = accepted; norms_are = A.norms_are ∙ ap array_of (sym same_norms) }

    pub part_accepts : {n : ℕ} → n ≡ size_of d → Accepts (take n t) d norms
    part_accepts e = rw e accepts
