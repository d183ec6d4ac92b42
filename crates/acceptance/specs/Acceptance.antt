-- What the check of a whole sheet answers.
use Rattle.std.specs.Prelude.{Bool, List, ◌++◌, ℕ, eqb, ltb}
use Rattle.model.specs.Finite.{both, list_from}
use Rattle.model.specs.Limits.{norm_limit}
use Rattle.model.specs.Refusal.{Check, check, clear, refusal, first_of, accept_checks}
use Rattle.model.specs.Answer.{Answer, refused, given}
use Rattle.sheet.specs.Reader.{header_of}
use Rattle.norms.specs.Norms.{norms_of}
use Rattle.acceptance.specs.declared.accept.Acceptance.{Acceptance}

-- "norms (not in Walk)": 9, then 10, by any marks and norms of n kinds; a norm over the limit is that of a marked kind.
unfoldable pub norm_checks_by : (ℕ → Bool) → (ℕ → ℕ) → ℕ → List Check
norm_checks_by r w n = list_from (λ k. check 9 k (both (r k) (eqb (w k) 0))) 0 n ++ list_from (λ k. check 10 k (ltb norm_limit (w k))) 0 n

-- What an accepted sheet gives, as the struct: the card and the norms of its reached kinds.
unfoldable pub accepted_with : List ℕ → Acceptance
accepted_with s = record { card = header_of s; norms = norms_of s }

-- What the checks 1 to 10 come to: that, or the refusal.
unfoldable pub acceptance_of : List ℕ → Answer Acceptance
acceptance_of s = elim (first_of (accept_checks s)) [ clear ↦ given (accepted_with s) | refusal k p ↦ refused k p ]
