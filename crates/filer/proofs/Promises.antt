-- What the answers mean, proved as the specification states it.
use Rattle.std.specs.Prelude.{Result, Ok, Err}
use mathlib.Core.List.{List, []}
use mathlib.Core.Logic.Iff
use mathlib.Core.Logic.{◌↔◌, ◌⊎◌, inl, inr}
use mathlib.Core.Path.{◌≡◌, refl, sym, ◌∙◌, ap, fun_ext}
use Prim.Native.Nat.{ℕ, zero, suc, ◌+◌, ◌*◌, ◌≤◌, ◌<◌, max}
use native.Mathlib.Decide.{dec_lt}
use native.Mathlib.Nat.{mul-le-mul_right, suc-mul}
use native.Mathlib.Omega.{arith}
use lib.ListN.{length, take, get_or-append}
use lib.Seq.{take_at}
use Rattle.model.specs.Field.{Field, unit, at}
use Rattle.model.specs.Card.{Card, Reached, reached_count}
use Rattle.model.specs.Base.{stage_row_in, settled_stage, settled_row, since}
use Rattle.model.specs.Sense.{Sense, plain, finer}
use Rattle.theory.specs.Game.{Strategy, Answered}
use Rattle.theory.specs.FinerGame.{FinerAnswered, AlwaysIn, AnsweredIn}
use Rattle.model.specs.Sheet.{kind_count, field_count, card_of, field_of}
use Rattle.model.specs.Limits.{Limits}
use Rattle.model.specs.Refusal.{Accepted, clear, refusal, first_of, settle_checks, settle_since_checks, compare_checks, form_checks}
use Rattle.theory.specs.Terms.{Before, BaseOf, Stage, Prime, Settled as IsSettled}
use Rattle.theory.specs.Since.{Sinces}
use Rattle.theory.specs.Meanings.{Settles}
use Rattle.theory.specs.Demands.{Demand2, Demand3}
use Rattle.model.specs.Answer.{Answer, refused, given, Lent, LentMarks, same, different, settle_of, settle_since_of, compare_in, forming_in, row_of, row_check_of, table_of, marks_of, prime_form_in, written}
use Rattle.theory.proofs.Lists.{length_from}
use Rattle.theory.proofs.Field.{unit_same, unit_other}
use Rattle.theory.proofs.Sheets.{sheet_clear, tells_reached, under_kinds, field_kinds}
use Rattle.theory.proofs.Reach.{dec_tells}
use Rattle.theory.proofs.Answers.{demand1}
use Rattle.theory.proofs.Demands.{demands}
use Rattle.theory.proofs.Told.{told, found, answer_of_lem, lent_of}
use Rattle.theory.proofs.Meanings.{meanings}
use Rattle.refusals.specs.declared.Refusal.{Refusal}
use Rattle.refusals.specs.Refusals.{finding_of, answer_of}
use Rattle.refusals.proofs.Told.{told_refused, told_given}
use Rattle.filer.specs.Answers.{verdict_of}
use Rattle.filer.specs.Promises.{SettleAnswers, SettleMeans, SinceAnswers, SinceMeans, RowAnswers, CompareAnswers, CompareMeans, CompareGames, FormAnswers, FormMeans, Promises}
use Rattle.filer.specs.declared.answers.Verdict.{Verdict}
use Rattle.filer.specs.declared.answers.Verdict.TheVariants.{Same, Different, Refused as NotCalled}
use Rattle.filer.proofs.Rows.{row_at, row_past}

-- The cases have different values.
verdict_only : (v w : Verdict) → verdict_of v ≡ verdict_of w → v ≡ w
verdict_only Same Same e = refl
verdict_only Same (Different t r) e = let z : ◌≡◌ {A = ℕ} 0 1 = cc in absurd (omega arith)
verdict_only Same (NotCalled k p) e = let z : ◌≡◌ {A = ℕ} 0 1 = cc in absurd (omega arith)
verdict_only (Different t r) Same e = let z : ◌≡◌ {A = ℕ} 0 1 = cc in absurd (omega arith)
verdict_only (Different t r) (Different u q) e = cc
verdict_only (Different t r) (NotCalled k p) e = let z : ◌≡◌ {A = ℕ} 0 1 = cc in absurd (omega arith)
verdict_only (NotCalled k p) Same e = let z : ◌≡◌ {A = ℕ} 0 1 = cc in absurd (omega arith)
verdict_only (NotCalled k p) (Different t r) e = let z : ◌≡◌ {A = ℕ} 0 1 = cc in absurd (omega arith)
verdict_only (NotCalled k p) (NotCalled i q) e = cc

-- A number stands for itself.
settled_is : (answer : Result ℕ Refusal) {y : Answer ℕ} → answer_of (λ t. t) answer ≡ y → (t : ℕ) → y ≡ given t → answer ≡ Ok t
settled_is answer e t h = (told_given (λ t. t) (λ v w q. q) answer e t).1 h

-- Settle.
module _ (s table : List ℕ) (answer : Result ℕ Refusal) (after : List ℕ) (e : answer_of (λ t. t) answer ≡ (settle_of s table).answer) (d : after ≡ (settle_of s table).lent) where
  settle_refused : (k p : ℕ) → (finding_of answer ≡ refusal k p) ↔ (first_of (settle_checks s (length table)) ≡ refusal k p)
  unfolding settle_of
  settle_refused k p =
      Iff.trans (told_refused (λ t. t) answer e k p)
      (found (λ (x : Lent ℕ). x.answer) (record { answer = given (settled_stage (card_of s)); lent = written (table_of s) table }) (λ k p. record { answer = refused k p; lent = table })
      (settled_stage (card_of s)) refl (λ k p. refl) (first_of (settle_checks s (length table))) k p)

  settle_given : Limits s → kind_count s * kind_count s ≤ length table → (answer ≡ Ok (settled_stage (card_of s))) × (after ≡ written (table_of s) table)
  settle_given L h =
      let r = (demand1 s).settled L table h in
      (settled_is answer e (settled_stage (card_of s)) (answer_of_lem r), d ∙ lent_of r)

  settle_answers : SettleAnswers s table answer after
  settle_answers = record {
    settled = settle_given;
    refused = settle_refused;
    unchanged = λ k p h. d ∙ lent_of ((demand1 s).settle_refused table k p ((settle_refused k p).0 h));
    size = (demand1 s).table_size;
    past = λ e h. ap (λ (xs : List ℕ). at xs e) d ∙ (demand1 s).settle_past table e h;
    long = ap length d ∙ (demand1 s).settle_length table;
  }

  module _ (ok : Accepted s) (room : kind_count s * kind_count s ≤ length table) where
    n : ℕ
    n = kind_count s

    limits : Limits s
    limits = (demand1 s).accepted.0 ok

    card_kinds : (card_of s).kinds ≡ kind_count s
    unfolding card_of
    card_kinds = refl

    settles : Settles plain (card_of s)
    settles = (meanings {0}).settles plain s ok

    stage_is : (t : ℕ) → answer ≡ Ok t → settled_stage (card_of s) ≡ t
    stage_is t h = let a = (settle_given limits room).0 in cc

    -- A row of the final base has counts of the card's kinds alone.
    settled_past : (k j : ℕ) → k < kind_count s → kind_count s ≤ j → settled_row (card_of s) k j ≡ 0
    settled_past k j h l = of_kind (dec_tells _ (tells_reached s ok k))
      where
        go : {P Q : Type 0} → ((settled_row (card_of s) k ≡ unit k) × P) ⊎ (Before (card_of s) k (settled_row (card_of s) k) × Q)
            → Dec (0 < settled_row (card_of s) k j) → settled_row (card_of s) k j ≡ 0
        go x (no z) = omega arith
        go (inl x) (yes z) = ap (λ (f : Field). f j) x.0 ∙ unit_other k j (λ i. omega arith)
        go (inr x) (yes z) = absurd (omega (arith, under_kinds s j (x.0 j z).0))

        of_kind : Dec (Reached (card_of s) k) → settled_row (card_of s) k j ≡ 0
        of_kind (yes v) = go (settles.final.counts k v) (dec_lt 0 (settled_row (card_of s) k j))
        of_kind (no v) = ap (λ (f : Field). f j) (settles.out_row (settled_stage (card_of s)) k v)

    row_handed : (k : ℕ) → k < kind_count s → row_check_of (kind_count s) k after ≡ clear
    row_handed k h =
        ((demand1 s).row_taken (kind_count s) k after).1 (limits.kinds.0, limits.kinds.1, h, omega (arith, ap length d, (demand1 s).settle_length table))

    -- The row that Row hands out is that of the final base.
    row_is : (k : ℕ) → k < kind_count s → at (row_of (kind_count s) k after) ≡ settled_row (card_of s) k
    unfolding written
    row_is k h = fun_ext (λ j. go j (dec_lt j (kind_count s)))
      where
        go : (j : ℕ) → Dec (j < kind_count s) → at (row_of (kind_count s) k after) j ≡ settled_row (card_of s) k j
        go j (yes l) =
            row_at (kind_count s) k after (row_handed k h) j l
            ∙ ap (λ (xs : List ℕ). at xs (k * kind_count s + j)) (settle_given limits room).1
            ∙ get_or-append (table_of s) _ 0 (k * kind_count s + j) (omega (arith, (demand1 s).table_size, mul-le-mul_right (kind_count s) h, suc-mul k (kind_count s)))
            ∙ (demand1 s).table_row k j h l
        go j (no l) = row_past (kind_count s) k after (row_handed k h) j (omega arith) ∙ sym (settled_past k j h (omega arith))

    base_handed : BaseOf (card_of s) (Stage (card_of s) (settled_stage (card_of s))) (λ k. at (row_of (kind_count s) k after))
    base_handed = record {
      related = λ k h. rw (row_is k (under_kinds s k h)) (settles.final.related k h);
      counts = λ k h. go k h (settles.final.counts k h);
    }
      where
        same_row : (k : ℕ) → Reached (card_of s) k → at (row_of (kind_count s) k after) ≡ settled_row (card_of s) k
        same_row k h = row_is k (under_kinds s k h)

        go : {P : Type 0} (k : ℕ) → Reached (card_of s) k
            → ((settled_row (card_of s) k ≡ unit k) × P) ⊎ (Before (card_of s) k (settled_row (card_of s) k) × ((j : ℕ) → 0 < settled_row (card_of s) k j → settled_row (card_of s) j ≡ unit j))
            → ((at (row_of (kind_count s) k after) ≡ unit k) × P) ⊎ (Before (card_of s) k (at (row_of (kind_count s) k after)) × ((j : ℕ) → 0 < at (row_of (kind_count s) k after) j → at (row_of (kind_count s) j after) ≡ unit j))
        go k h (inl x) = inl (same_row k h ∙ x.0, x.1)
        go k h (inr x) =
            inr ((λ j z. x.0 j (count j z)), λ j z. same_row j (x.0 j (count j z)).0 ∙ x.1 j (count j z))
          where
            count : (j : ℕ) → 0 < at (row_of (kind_count s) k after) j → 0 < settled_row (card_of s) k j
            count j z = rw (ap (λ (f : Field). f j) (same_row k h)) at z

    stage_means : (1 ≤ settled_stage (card_of s)) × (settled_stage (card_of s) ≤ max 1 (reached_count (card_of s))) × IsSettled (card_of s) (settled_stage (card_of s))
        × ((q : ℕ) → 1 ≤ q → q < settled_stage (card_of s) → ¬ IsSettled (card_of s) q)
    stage_means = (settles.from, settles.most, settles.settled, settles.least)

    -- A row is itself once just when its kind is prime; a kind that is out is not, and its row is empty.
    own_row {ℓ} : (k : ℕ) → Dec (Reached (card_of s) k) → (settled_row (card_of s) k ≡ unit k) ↔ Prime {ℓ} (card_of s) k
    own_row k (yes v) = ((meanings {ℓ}).primes plain s ok).own_row k v
    own_row k (no v) = (
      (λ e. absurd (omega (arith, ap (λ (f : Field). f k) (sym (settles.out_row (settled_stage (card_of s)) k v) ∙ e), unit_same k))),
      (λ p. absurd (v p.0)),
    )

    settle_means {ℓ} : SettleMeans {ℓ} s table answer after
    settle_means = record {
      stage = λ t h. rw (stage_is t h) at stage_means;
      base = λ t h. rw (stage_is t h) at base_handed;
      out = λ k h v. row_is k h ∙ settles.out_row (settled_stage (card_of s)) k v;
      prime = λ k h. rw (row_is k h) (own_row {ℓ} k (dec_tells _ (tells_reached s ok k)));
    }

-- Settle with the marks.
module _ (s table marks : List ℕ) (answer : Result ℕ Refusal) (after marked : List ℕ) (e : answer_of (λ t. t) answer ≡ (settle_since_of s table marks).answer) (d : after ≡ (settle_since_of s table marks).table) (m : marked ≡ (settle_since_of s table marks).marks) where
  since_refused : (k p : ℕ) → (finding_of answer ≡ refusal k p) ↔ (first_of (settle_since_checks s (length table) (length marks)) ≡ refusal k p)
  unfolding settle_since_of
  since_refused k p =
      Iff.trans (told_refused (λ t. t) answer e k p)
      (found (λ (x : LentMarks ℕ). x.answer) (record { answer = given (settled_stage (card_of s)); table = written (table_of s) table; marks = written (marks_of s) marks })
      (λ k p. record { answer = refused k p; table = table; marks = marks }) (settled_stage (card_of s)) refl (λ k p. refl) (first_of (settle_since_checks s (length table) (length marks))) k p)

  since_given : Limits s → kind_count s * kind_count s ≤ length table → kind_count s ≤ length marks
      → (answer ≡ Ok (settled_stage (card_of s))) × (after ≡ written (table_of s) table) × (marked ≡ written (marks_of s) marks)
  since_given L h l =
      let r = (demand1 s).since_given table marks (((demand1 s).since_taken (length table) (length marks)).1 (L, h, l)) in
      (settled_is answer e (settled_stage (card_of s)) (ap (λ (x : LentMarks ℕ). x.answer) r), d ∙ ap (λ (x : LentMarks ℕ). x.table) r, m ∙ ap (λ (x : LentMarks ℕ). x.marks) r)

  since_answers : SinceAnswers s table marks answer after marked
  since_answers = record {
    given = since_given;
    refused = since_refused;
    unchanged = λ k p h.
        let r = (demand1 s).since_refused table marks k p ((since_refused k p).0 h) in
        (d ∙ ap (λ (x : LentMarks ℕ). x.table) r, m ∙ ap (λ (x : LentMarks ℕ). x.marks) r);
    size = ((demand1 s).table_size, (demand1 s).marks_size);
    past = λ e.
        let p = (demand1 s).since_past table marks e in
        ((λ h. ap (λ (xs : List ℕ). at xs e) d ∙ p.0 h), (λ h. ap (λ (xs : List ℕ). at xs e) m ∙ p.1 h));
    long = (ap length d ∙ ((demand1 s).since_lengths table marks).0, ap length m ∙ ((demand1 s).since_lengths table marks).1);
  }

  module _ (ok : Accepted s) (room : kind_count s * kind_count s ≤ length table) (space : kind_count s ≤ length marks) where
    all_given : (answer ≡ Ok (settled_stage (card_of s))) × (after ≡ written (table_of s) table) × (marked ≡ written (marks_of s) marks)
    all_given = since_given ((demand1 s).accepted.0 ok) room space

    -- Settle answers the same, and leaves the same table.
    as_settled : (answer_of (λ t. t) answer ≡ (settle_of s table).answer) × (after ≡ (settle_of s table).lent)
    as_settled =
        let r = (demand1 s).settled ((demand1 s).accepted.0 ok) table room in
        (ap (answer_of (λ t. t)) all_given.0 ∙ sym (answer_of_lem r), all_given.1 ∙ sym (lent_of r))

    -- Entry k of the buffer is the mark of kind k.
    mark_is : (k : ℕ) → k < kind_count s → at marked k ≡ since (card_of s) k
    unfolding written
    mark_is k h = ap (λ (xs : List ℕ). at xs k) all_given.2 ∙ get_or-append (marks_of s) _ 0 k (omega (arith, (demand1 s).marks_size)) ∙ (demand1 s).since_marks k h

    -- The row that Row hands out is that of the final base, and the base at a stage is the one of that stage.
    final_row : (k : ℕ) → Reached (card_of s) k → at (row_of (kind_count s) k after) ≡ settled_row (card_of s) k
    final_row k v = row_is s table answer after as_settled.0 as_settled.1 ok room k (under_kinds s k v)

    base_row : (k : ℕ) → Reached (card_of s) k → (q : ℕ) → 1 ≤ q → (rows : ℕ → Field) → BaseOf (card_of s) (Stage (card_of s) q) rows → rows k ≡ stage_row_in plain (card_of s) q k
    base_row k v zero h rows B = absurd (omega arith)
    base_row k v (suc q) h rows B = ((meanings {0}).settles plain s ok).only q rows B k v

    since_means {ℓ} : SinceMeans {ℓ} s table answer after marked
    since_means = record {
      settle = as_settled;
      from = λ k v. rw (mark k v) (S.from k v);
      most = λ t h k v. let a = all_given.0 in let z : settled_stage (card_of s) ≡ t = cc in rw (mark k v, ← z) (S.most k v);
      stays = λ k v q h rows B. base_row k v q (omega (arith, S.from k v, mark k v)) rows B ∙ S.stays k v q (rw (mark k v) at h) ∙ sym (final_row k v);
      first = λ k v q i h rows B z. S.first k v q i (rw (mark k v) at h) (sym (base_row k v q i rows B) ∙ z ∙ final_row k v);
      prime = λ k x q i rows B. rw (base_row k x.0 q i rows B, mark k x.0) (S.prime k x q i);
      out = λ k h v. mark_is k h ∙ S.out k v;
    }
      where
        S : Sinces {ℓ} plain (card_of s)
        S = (meanings {ℓ}).sinces plain s ok

        mark : (k : ℕ) → Reached (card_of s) k → at marked k ≡ since (card_of s) k
        mark k v = mark_is k (under_kinds s k v)

-- The check of a row is passed just where it finds nothing.
checked : (answer : Result (Unit {0}) Refusal) → (answer ≡ Ok tt) ↔ (finding_of answer ≡ clear)
checked (Ok x) = ((λ h. refl), (λ h. refl))
checked (Err r) = (
  (λ h. let z : ◌≡◌ {A = ℕ} 0 1 = cc in absurd (omega arith)),
  (λ h. let z : ◌≡◌ {A = ℕ} 0 1 = cc in absurd (omega arith)),
)

-- Row.
row_answers : (n k : ℕ) (table : List ℕ) (answer : Result (Unit {0}) Refusal) (part : List ℕ)
    → finding_of answer ≡ row_check_of n k table → part ≡ row_of n k table → RowAnswers n k table answer part
unfolding row_check_of
row_answers n k table answer part e d = record {
  taken = (
    (λ h. ((demand1 table).row_taken n k table).0 (sym e ∙ (checked answer).0 h)),
    (λ h. (checked answer).1 (e ∙ ((demand1 table).row_taken n k table).1 h)),
  );
  refused = λ q p. ((λ h. sym e ∙ h), (λ h. e ∙ h));
  handed = λ h. d ∙ (demand1 table).row_part_is n k table (sym e ∙ ap finding_of h);
  empty = (
    (λ h. let r = ((demand1 table).row_refused n k table).0 (sym d ∙ h) in (r.0, r.1, e ∙ r.2)),
    (λ x. d ∙ ((demand1 table).row_refused n k table).1 (x.0, x.1, sym e ∙ x.2)),
  );
}

-- The pair left after no challenge is the pair itself.
left_always : (sense : Sense) (c : Card) (f : Strategy c) (a b : Field) → AnsweredIn sense c f (AlwaysIn sense c) [] [] a b → AlwaysIn sense c a b
unfolding Answered FinerAnswered
left_always plain c f a b x = x
left_always finer c f a b x = x.1

-- Compare.
module _ (sense : Sense) (s : List ℕ) (i j : ℕ) (answer : Verdict) (e : verdict_of answer ≡ compare_in sense s i j) where
  is_same : (answer ≡ Same) ↔ (compare_in sense s i j ≡ given same)
  is_same = told verdict_of verdict_only answer e Same

  is_different : (t r : ℕ) → (answer ≡ Different t r) ↔ (compare_in sense s i j ≡ given (different t r))
  is_different t r = told verdict_of verdict_only answer e (Different t r)

  some_different : ((t : ℕ) × (r : ℕ) × (answer ≡ Different t r)) ↔ ((t : ℕ) × (r : ℕ) × (compare_in sense s i j ≡ given (different t r)))
  some_different = ((λ x. (x.0, x.1, (is_different x.0 x.1).0 x.2)), (λ x. (x.0, x.1, (is_different x.0 x.1).1 x.2)))

  compare_refused : (k p : ℕ) → (answer ≡ NotCalled k p) ↔ (first_of (compare_checks s i j) ≡ refusal k p)
  unfolding compare_in
  compare_refused k p =
      Iff.trans (told verdict_of verdict_only answer e (NotCalled k p)) (found (λ x. x) _ refused _ refl (λ k p. refl) (first_of (compare_checks s i j)) k p)

  compare_answers : CompareAnswers s i j answer
  compare_answers = record { called = λ L h l. go ((demand1 s).called L sense i j h l); refused = compare_refused }
    where
      go : (compare_in sense s i j ≡ given same) ⊎ ((t : ℕ) × (r : ℕ) × (compare_in sense s i j ≡ given (different t r))) → (answer ≡ Same) ⊎ ((t : ℕ) × (r : ℕ) × (answer ≡ Different t r))
      go (inl x) = inl (is_same.1 x)
      go (inr x) = inr (some_different.1 x)

  module _ (ok : Accepted s) (h : i < field_count s) (l : j < field_count s) where
    compare_means {ℓ} : CompareMeans {ℓ} sense s i j answer
    compare_means =
        let D : Demand2 {ℓ} sense s i j = (demands {ℓ}).demand2 sense s ok i j h l in
        record { same_means = Iff.trans is_same D.same_means; different_means = Iff.trans some_different D.different_means }

    same_holds : answer ≡ Same → AlwaysIn sense (card_of s) (field_of s i) (field_of s j)
    same_holds x = left_always sense _ _ _ _ ((((demands {0}).demand3 sense s ok i j h l).same_plays (is_same.0 x)).1 [])

    compare_games : CompareGames sense s i j answer
    compare_games =
        let D : Demand3 sense s i j = (demands {0}).demand3 sense s ok i j h l in
        record {
          same_plays = λ x. D.same_plays (is_same.0 x);
          plays_same = λ f x. is_same.1 (D.plays_same f x);
          same_holds = same_holds;
          same_again = λ x. D.always_again (field_of s i) (field_of s j) (field_kinds s (sheet_clear s ok) i) (field_kinds s (sheet_clear s ok) j) (same_holds x);
          parted_different = λ x. some_different.1 (D.parted_different x);
          different_parted = λ t r x. D.different_parted t r ((is_different t r).0 x);
          different_stage = λ t r x. D.different_stage t r ((is_different t r).0 x);
        }

-- Prime form.
module _ (sense : Sense) (s : List ℕ) (i : ℕ) (buffer after : List ℕ) (d : after ≡ (forming_in sense s i buffer).lent) where
  module _ (answer : Result (Unit {0}) Refusal) (e : answer_of (λ x. tt) answer ≡ (forming_in sense s i buffer).answer) where
    form_refused : (k p : ℕ) → (finding_of answer ≡ refusal k p) ↔ (first_of (form_checks s i (length buffer)) ≡ refusal k p)
    unfolding forming_in
    form_refused k p =
        Iff.trans (told_refused (λ x. tt) answer e k p)
        (found (λ (x : Lent (Unit {0})). x.answer) (record { answer = given tt; lent = written (prime_form_in sense s i) buffer }) (λ k p. record { answer = refused k p; lent = buffer })
        tt refl (λ k p. refl) (first_of (form_checks s i (length buffer))) k p)

    form_answers : FormAnswers sense s i buffer answer after
    form_answers = record {
      formed = λ L h l. let r = (demand1 s).formed L sense i buffer h l in ((told_given (λ (x : Unit {0}). tt) (λ v w q. refl) answer e tt).1 (answer_of_lem r), d ∙ lent_of r);
      refused = form_refused;
      unchanged = λ k p h. d ∙ lent_of ((demand1 s).form_refused sense i buffer k p ((form_refused k p).0 h));
      size = (demand1 s).form_size sense i;
      past = λ e h. ap (λ (xs : List ℕ). at xs e) d ∙ (demand1 s).form_past sense i buffer e h;
      long = ap length d ∙ (demand1 s).form_length sense i buffer;
    }

  module _ (ok : Accepted s) (h : i < field_count s) (l : kind_count s ≤ length buffer) where
    -- The buffer begins with the prime form.
    pub begins : take (kind_count s) after ≡ prime_form_in sense s i
    unfolding written prime_form_in
    begins =
        ap (take (kind_count s)) (d ∙ lent_of ((demand1 s).formed ((demand1 s).accepted.0 ok) sense i buffer h l))
        ∙ take_at (prime_form_in sense s i) _ (kind_count s) (length_from _ 0 (kind_count s))

    form_means {ℓ} : FormMeans {ℓ} sense s i after
    form_means =
        let D : Demand2 {ℓ} sense s i i = (demands {ℓ}).demand2 sense s ok i i h h in
        record { primes = λ k x. D.form_primes k (rw begins at x); bisimilar = rw begins D.form_bisimilar }

form_equal : (sense : Sense) (s : List ℕ) (i j : ℕ) (first second after_first after_second : List ℕ) (answer : Verdict)
    → after_first ≡ (forming_in sense s i first).lent → after_second ≡ (forming_in sense s j second).lent → verdict_of answer ≡ compare_in sense s i j
    → Accepted s → i < field_count s → j < field_count s → kind_count s ≤ length first → kind_count s ≤ length second
    → (take (kind_count s) after_first ≡ take (kind_count s) after_second) ↔ (answer ≡ Same)
form_equal sense s i j first second after_first after_second answer d f e ok h l x y =
    let D : Demand2 {0} sense s i j = (demands {0}).demand2 sense s ok i j h l in
    rw (begins sense s i first after_first d ok h x, begins sense s j second after_second f ok l y) (Iff.trans D.form_equal (Iff.symm (is_same sense s i j answer e)))

finer_same : (s : List ℕ) (i j : ℕ) (answer finer_answer : Verdict) → verdict_of answer ≡ compare_in plain s i j → verdict_of finer_answer ≡ compare_in finer s i j
    → finer_answer ≡ Same → answer ≡ Same
finer_same s i j answer finer_answer e d x = (is_same plain s i j answer e).1 (((meanings {0}).finer s).finer_same i j ((is_same finer s i j finer_answer d).0 x))

pub promises {ℓ} : Promises {ℓ}
promises = record {
  settle_answers = settle_answers;
  settle_means = λ s table answer after e d ok room. settle_means s table answer after e d ok room;
  since_answers = since_answers;
  since_means = λ s table marks answer after marked e d m ok room space. since_means s table marks answer after marked e d m ok room space;
  row_answers = row_answers;
  compare_answers = compare_answers;
  compare_means = λ sense s i j answer e ok h l. compare_means sense s i j answer e ok h l;
  compare_games = compare_games;
  finer_same = finer_same;
  form_answers = λ sense s i buffer answer after e d. form_answers sense s i buffer after d answer e;
  form_means = λ sense s i buffer after d ok h l. form_means sense s i buffer after d ok h l;
  form_equal = form_equal;
}
