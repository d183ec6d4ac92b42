-- How large is what the calls give.
use mathlib.Core.List.{List, []}
use mathlib.Core.Path.{◌≡◌, refl, ap}
use Prim.Native.Nat.{ℕ, ◌*◌, ◌≤◌}
use native.Mathlib.Omega.{arith}
use lib.ListN.{length, drop, length-take}
use Rattle.model.specs.Limits.{most_kinds}
use Rattle.model.specs.Sense.{Sense}
use Rattle.model.specs.Sheet.{kind_count}
use Rattle.model.specs.Refusal.{Finding, clear, refusal, settle_checks, form_checks}
use Rattle.model.specs.Answer.{given, settle_of, forming_in, row_of, row_check_of}
use Rattle.theory.proofs.Answers.{demand1}
use Rattle.replies.proofs.Texts.{answered_few}

-- A row that is handed out has at most as many counts as a card has kinds.
pub row_most : (n k : ℕ) (table : List ℕ) → length (row_of n k table) ≤ most_kinds
row_most n k table = go (row_check_of n k table) refl
  where
    go : (f : Finding) → row_check_of n k table ≡ f → length (row_of n k table) ≤ most_kinds
    go clear e =
        let few = (((demand1 []).row_taken n k table).0 e).1 in
        omega (arith, ap length ((demand1 []).row_part_is n k table e), length-take n (drop (k * n) table), few)
    go (refusal q p) e = omega (arith, ap length (((demand1 []).row_refused n k table).1 (q, p, e)))

pub settled_few : (s table : List ℕ) (stage : ℕ) → given stage ≡ (settle_of s table).answer → kind_count s ≤ most_kinds
unfolding settle_checks
settled_few s table stage e = answered_few s _ (λ k p d. ap (λ x. x.answer) ((demand1 s).settle_refused table k p d)) e

pub formed_few : (m : Sense) (s : List ℕ) (i : ℕ) (buffer : List ℕ) → given tt ≡ (forming_in m s i buffer).answer → kind_count s ≤ most_kinds
unfolding form_checks
formed_few m s i buffer e = answered_few s _ (λ k p d. ap (λ x. x.answer) ((demand1 s).form_refused m i buffer k p d)) e
