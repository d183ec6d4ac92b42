-- What the answers mean, proved as the specification states it.
use Rattle.std.specs.Prelude.{Result, Ok}
use mathlib.Core.List.{List}
use mathlib.Core.Logic.Iff
use mathlib.Core.Logic.{◌↔◌}
use mathlib.Core.Path.{◌≡◌, refl, ◌∙◌, ap}
use Prim.Native.Nat.{ℕ, ◌+◌, ◌*◌, ◌≤◌, ◌<◌}
use native.Mathlib.Omega.{arith}
use lib.ListN.{length, take}
use lib.Seq.{take_at}
use Rattle.model.specs.Sense.{plain}
use Rattle.model.specs.Field.{Field, at, tokens}
use Rattle.model.specs.Limits.{Limits}
use Rattle.model.specs.Sheet.{kind_count, field_count, field_of}
use Rattle.model.specs.Refusal.{Accepted, clear, refusal, first_of, squads_checks}
use Rattle.model.specs.Answer.{refused, given, Lent, written, form_of, squad_count, remainder_form, squads_of}
use Rattle.theory.proofs.Answers.{demand1}
use Rattle.theory.proofs.Squads.{squads}
use Rattle.theory.proofs.Told.{found, cleared, answer_of_lem, lent_of}
use Rattle.filer.proofs.Promises.{begins as form_begins}
use Rattle.refusals.specs.declared.Refusal.{Refusal}
use Rattle.refusals.specs.Refusals.{finding_of, answer_of}
use Rattle.refusals.proofs.Told.{told_refused, told_given}
use Rattle.squads.specs.Promises.{SquadsAnswers, SquadsMeans, Promises}

module _ (s : List ℕ) (i j : ℕ) (buffer : List ℕ) (answer : Result ℕ Refusal) (after : List ℕ)
    (e : answer_of (λ q. q) answer ≡ (squads_of s i j buffer).answer) (d : after ≡ (squads_of s i j buffer).lent) where
  refuses : (k p : ℕ) → (finding_of answer ≡ refusal k p) ↔ (first_of (squads_checks s i j (length buffer)) ≡ refusal k p)
  unfolding squads_of
  refuses k p =
      Iff.trans (told_refused (λ q. q) answer e k p)
      (found (λ (x : Lent ℕ). x.answer) (record { answer = given (squad_count s i j); lent = written (remainder_form s i j) buffer }) (λ k p. record { answer = refused k p; lent = buffer })
      (squad_count s i j) refl (λ k p. refl) (first_of (squads_checks s i j (length buffer))) k p)

  counts : first_of (squads_checks s i j (length buffer)) ≡ clear → answer ≡ Ok (squad_count s i j)
  counts c = (told_given (λ q. q) (λ v w h. h) answer e (squad_count s i j)).1 (answer_of_lem ((demand1 s).squads_given i j buffer c))

  clears : (q : ℕ) → answer ≡ Ok q → first_of (squads_checks s i j (length buffer)) ≡ clear
  clears q h = cleared (first_of (squads_checks s i j (length buffer))) (λ k p f. other ((refuses k p).1 f))
    where
      other : {k p : ℕ} → finding_of answer ≡ refusal k p → ⊥
      other g = let z : ◌≡◌ {A = ℕ} 0 1 = cc (ap finding_of h) in omega arith

  answers : SquadsAnswers s i j buffer answer after
  answers = record {
    answered = ((λ h. ((demand1 s).squads_taken i j (length buffer)).0 (clears h.0 h.1)), (λ l. (squad_count s i j, counts (((demand1 s).squads_taken i j (length buffer)).1 l))));
    refused = refuses;
    unchanged = λ k p h. d ∙ lent_of ((demand1 s).squads_refused i j buffer k p ((refuses k p).0 h));
    past = λ x h. ap (λ (xs : List ℕ). at xs x) d ∙ (demand1 s).squads_past i j buffer x h;
    long = ap length d ∙ (demand1 s).squads_length i j buffer;
  }

  -- Where it answered.
  module _ (q : ℕ) (h : answer ≡ Ok q) where
    count_is : squad_count s i j ≡ q
    count_is = let g = counts (clears q h) in cc

    taken : Limits s × (i < field_count s) × (j < field_count s) × (0 < tokens (kind_count s) (field_of s j)) × (kind_count s ≤ length buffer)
    taken = ((demand1 s).squads_taken i j (length buffer)).0 (clears q h)

    ok : Accepted s
    ok = (demand1 s).accepted.1 taken.0

    -- The buffer begins with the remainder.
    begins : take (kind_count s) after ≡ remainder_form s i j
    unfolding written
    begins = ap (take (kind_count s)) (d ∙ lent_of ((demand1 s).squads_given i j buffer (clears q h))) ∙ take_at (remainder_form s i j) _ (kind_count s) ((demand1 s).remainder_size i j)

    means {ℓ} : SquadsMeans {ℓ} s i j q after
    means =
        let S = squads s ok i j in
        record {
          largest = (S.largest taken.3 q).0 count_is;
          joined = rw (begins, ← count_is) S.joined;
          primes = λ k x. S.primes k (rw begins at x);
          form = λ x u p. rw begins (S.form x u (rw (← count_is) at p));
          no_other = λ x f p. rw begins (S.no_other_joined x f (rw (← count_is) at p));
        }

    exact : (whole squad after_whole after_squad : List ℕ) → after_whole ≡ (form_of s i whole).lent → after_squad ≡ (form_of s j squad).lent
        → kind_count s ≤ length whole → kind_count s ≤ length squad
        → ((k : ℕ) → q * at (take (kind_count s) after_squad) k + at (take (kind_count s) after) k ≡ at (take (kind_count s) after_whole) k)
        × ((x : Field) → ((k : ℕ) → q * at (take (kind_count s) after_squad) k + x k ≡ at (take (kind_count s) after_whole) k) → x ≡ at (take (kind_count s) after))
    exact whole squad after_whole after_squad f g l m =
        let S = squads {0} s ok i j in
        rw (form_begins plain s i whole after_whole f ok taken.1 l, form_begins plain s j squad after_squad g ok taken.2 m, begins, ← count_is) (S.exact, S.no_other)

pub promises {ℓ} : Promises {ℓ}
promises = record {
  squads_answers = answers;
  squads_means = λ s i j buffer answer after q e d h. means s i j buffer answer after e d q h;
  squads_exact = λ s i j buffer whole squad answer after after_whole after_squad q e d h f g l m. exact s i j buffer answer after e d q h whole squad after_whole after_squad f g l m;
}
