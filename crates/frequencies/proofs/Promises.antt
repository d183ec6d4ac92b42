-- What the answers mean, proved as the specification states it.
use Rattle.std.specs.Prelude.{Result, Ok}
use mathlib.Core.List.{List, Memᴰ}
use mathlib.Core.Logic.Iff
use mathlib.Core.Logic.{◌↔◌}
use mathlib.Core.Path.{◌≡◌, refl, sym, ◌∙◌, ap}
use Prim.Native.Nat.{ℕ, suc, ◌+◌, ◌≤◌, ◌<◌}
use native.Mathlib.Omega.{arith}
use lib.ListN.{length, take}
use lib.Seq.{take_at}
use Rattle.model.specs.Sense.{plain}
use Rattle.model.specs.Field.{at, tokens}
use Rattle.model.specs.Card.{reached_count}
use Rattle.model.specs.Norm.{kind_norm}
use Rattle.model.specs.Limits.{most_tokens, most_listed, Limits}
use Rattle.model.specs.Shelf.{entry}
use Rattle.model.specs.Sheet.{kind_count, field_count, card_of, field_of}
use Rattle.model.specs.Refusal.{Finding, Accepted, clear, refusal, first_of, compare_checks, frequencies_checks}
use Rattle.model.specs.Answer.{Answer, refused, given, Lent, Verdict, verdict_in, compare_in, compare_of, verdict_place, written, judged_at, frequencies, frequencies_of}
use Rattle.theory.specs.Frequencies.{OfSize}
use Rattle.theory.proofs.Answers.{demand1}
use Rattle.theory.proofs.Exec.{on_keep, tells_eq}
use Rattle.theory.proofs.Frequencies.{frequencies_claims}
use Rattle.theory.proofs.Sheets.{field_kinds, sheet_clear}
use Rattle.theory.proofs.Shelves.{shelves}
use Rattle.theory.proofs.Told.{found, cleared, answer_of_lem, lent_of}
use Rattle.tables.proofs.Tables.{first_below}
use Rattle.refusals.specs.declared.Refusal.{Refusal}
use Rattle.refusals.specs.Refusals.{finding_of, answer_of}
use Rattle.refusals.proofs.Told.{told_refused, told_given}
use Rattle.frequencies.specs.Promises.{FrequenciesAnswers, FrequenciesMean, Promises}

-- A list that has a member is not empty.
some_member : {A : Type 0} {x : A} {xs : List A} → Memᴰ x xs → 0 < length xs
some_member (Memᴰ.head e) = omega arith
some_member (Memᴰ.tail m) = omega arith

module _ (s : List ℕ) (i t : ℕ) (buffer : List ℕ) (answer : Result (Unit {0}) Refusal) (after : List ℕ)
    (e : answer_of (λ x. tt) answer ≡ (frequencies_of s i t buffer).answer) (d : after ≡ (frequencies_of s i t buffer).lent) where
  refuses : (k p : ℕ) → (finding_of answer ≡ refusal k p) ↔ (first_of (frequencies_checks s i t (length buffer)) ≡ refusal k p)
  unfolding frequencies_of
  refuses k p =
      Iff.trans (told_refused (λ x. tt) answer e k p)
      (found (λ (x : Lent (Unit {0})). x.answer) (record { answer = given tt; lent = written (frequencies s i t) buffer }) (λ k p. record { answer = refused k p; lent = buffer })
      tt refl (λ k p. refl) (first_of (frequencies_checks s i t (length buffer))) k p)

  writes : first_of (frequencies_checks s i t (length buffer)) ≡ clear → answer ≡ Ok tt
  writes c = (told_given (λ (x : Unit {0}). tt) (λ v w q. refl) answer e tt).1 (answer_of_lem ((demand1 s).frequencies_given i t buffer c))

  clears : answer ≡ Ok tt → first_of (frequencies_checks s i t (length buffer)) ≡ clear
  clears h = cleared (first_of (frequencies_checks s i t (length buffer))) (λ k p f. other ((refuses k p).1 f))
    where
      other : {k p : ℕ} → finding_of answer ≡ refusal k p → ⊥
      other g = let z : ◌≡◌ {A = ℕ} 0 1 = cc (ap finding_of h) in omega arith

  answers : FrequenciesAnswers s i t buffer answer after
  answers = record {
    answered = ((λ h. ((demand1 s).frequencies_taken i t (length buffer)).0 (clears h)), (λ l. writes (((demand1 s).frequencies_taken i t (length buffer)).1 l)));
    refused = refuses;
    unchanged = λ k p h. d ∙ lent_of ((demand1 s).frequencies_refused i t buffer k p ((refuses k p).0 h));
    past = λ x h. ap (λ (xs : List ℕ). at xs x) d ∙ (demand1 s).frequencies_past i t buffer x h;
    long = ap length d ∙ (demand1 s).frequencies_length i t buffer;
  }

  -- Where it has written.
  module _ (h : answer ≡ Ok tt) where
    taken : Limits s × (i < field_count s) × (t ≤ most_tokens) × (entry (reached_count (card_of s)) t ≤ most_listed) × (kind_count s + 2 ≤ length buffer)
    taken = ((demand1 s).frequencies_taken i t (length buffer)).0 (clears h)

    ok : Accepted s
    ok = (demand1 s).accepted.1 taken.0

    -- The buffer begins with the counts.
    begins : take (kind_count s + 2) after ≡ frequencies s i t
    unfolding written
    begins = ap (take (kind_count s + 2)) (d ∙ lent_of ((demand1 s).frequencies_given i t buffer (clears h))) ∙ take_at (frequencies s i t) _ (kind_count s + 2) ((demand1 s).frequencies_size i t)

    counted : (p : ℕ) → p < kind_count s + 2 → length (judged_at (card_of s) (field_of s i) t p) ≡ at after p
    counted p l = sym ((frequencies_claims {0} s ok i t).counted p l) ∙ ap (λ (xs : List ℕ). at xs p) (sym begins) ∙ first_below after (kind_count s + 2) p l

    mean {ℓ} : FrequenciesMean {ℓ} s i t after
    mean =
        let F = frequencies_claims s ok i t in
        record {
          same = record { fields = judged_at (card_of s) (field_of s i) t 0; has = F.same; once = F.once 0; many = counted 0 (omega arith) };
          parted = λ q l. record { fields = judged_at (card_of s) (field_of s i) t (suc q); has = F.parted q; once = F.once (suc q); many = counted (suc q) (omega arith) };
          adds = rw begins F.adds;
        }

    -- A field of the sheet that has t tokens is counted at the place of what Compare answers.
    module _ (j : ℕ) (v : Verdict) (answers_v : compare_of s i j ≡ given v) (size : tokens (kind_count s) (field_of s j) ≡ t) where
      of_size : OfSize (card_of s) t (field_of s j)
      unfolding card_of
      of_size = (field_kinds s (sheet_clear s ok) j, size)

      verdict_is : verdict_in plain (card_of s) (kind_norm (card_of s)) (field_of s i) (field_of s j) ≡ v
      unfolding compare_in
      verdict_is = go (first_of (compare_checks s i j)) answers_v
        where
          found_v : Verdict
          found_v = verdict_in plain (card_of s) (kind_norm (card_of s)) (field_of s i) (field_of s j)

          go : (f : Finding) → (elim f as (λ _. Answer Verdict) [ clear ↦ given found_v | refusal k p ↦ refused k p ]) ≡ given v → found_v ≡ v
          go clear x = cc
          go (refusal k p) x = let z : ◌≡◌ {A = ℕ} 0 1 = cc in absurd (omega arith)

      judged : Memᴰ (field_of s j) (judged_at (card_of s) (field_of s i) t (verdict_place v))
      unfolding judged_at
      judged =
          on_keep _ _ (λ b. tells_eq (verdict_place (verdict_in plain (card_of s) (kind_norm (card_of s)) (field_of s i) b)) (verdict_place v)) _ (field_of s j)
          (((shelves s t).fields (field_of s j)).1 of_size) (ap verdict_place verdict_is)

      counted_there : 0 < at after (verdict_place v)
      counted_there =
          let place = (frequencies_claims {0} s ok i t).one_place (field_of s j) of_size in
          let here : verdict_place v ≡ place.0 = (place.2 (verdict_place v)).0 judged in
          omega (arith, some_member judged, counted (verdict_place v) (rw here place.1))

pub promises {ℓ} : Promises {ℓ}
promises = record {
  frequencies_answers = answers;
  frequencies_mean = λ s i t buffer answer after e d h. mean s i t buffer answer after e d h;
  compared = λ s i j t buffer answer after v e d h. counted_there s i t buffer answer after e d h j v;
}
