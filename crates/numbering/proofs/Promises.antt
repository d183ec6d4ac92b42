-- What the answers mean, proved as the specification states it.
use Rattle.std.specs.Prelude.{Result, Ok}
use mathlib.Core.List.{List}
use mathlib.Core.Logic.Iff
use mathlib.Core.Logic.{◌↔◌}
use mathlib.Core.Path.{◌≡◌, refl, sym, ◌∙◌, ap, ap₂, fun_ext}
use Prim.Native.Nat.{ℕ, ◌≤◌, ◌<◌}
use native.Mathlib.Decide.{dec_lt}
use native.Mathlib.Omega.{arith}
use lib.ListN.{length, take}
use lib.Seq.{take_at}
use Rattle.model.specs.Field.{Field, at, tokens}
use Rattle.model.specs.Card.{reached_count}
use Rattle.model.specs.Limits.{most_tokens, Limits}
use Rattle.model.specs.Shelf.{entry, last_first, shelf_number, shelf_field}
use Rattle.model.specs.Sheet.{kind_count, field_count, card_of, field_of}
use Rattle.model.specs.Refusal.{Accepted, clear, refusal, first_of, shelf_number_checks, shelf_field_checks}
use Rattle.model.specs.Answer.{refused, given, Lent, Shelved, written, shelf_number_of, shelf_counts, shelf_field_of}
use Rattle.theory.specs.Terms.{OfKinds}
use Rattle.theory.specs.Shelves.{Precedes}
use Rattle.theory.proofs.Lists.{get_d_past}
use Rattle.theory.proofs.Sheets.{field_kinds, sheet_clear, under_kinds}
use Rattle.theory.proofs.Answers.{demand1}
use Rattle.theory.proofs.Order.{precedes_one}
use Rattle.theory.proofs.Shelves.{shelves}
use Rattle.theory.proofs.Told.{found, cleared, answer_of_lem, lent_of}
use Rattle.refusals.specs.declared.Refusal.{Refusal}
use Rattle.refusals.specs.Refusals.{finding_of, answer_of}
use Rattle.refusals.proofs.Told.{told_refused, told_given}
use Rattle.numbering.specs.Answers.{numbered, shelved}
use Rattle.numbering.specs.Promises.{NumberAnswers, FieldAnswers, Promises}
use Rattle.numbering.specs.declared.answers.ShelfNumber.{ShelfNumber}

-- Two shelf numbers do not stand for the same.
one_for_each : (v w : ShelfNumber) → shelved v ≡ shelved w → v ≡ w
one_for_each v w e = ap₂ numbered (ap (λ (r : Shelved). r.size) e) (ap (λ (r : Shelved). r.number) e)

card_kinds : (s : List ℕ) → (card_of s).kinds ≡ kind_count s
unfolding card_of
card_kinds s = refl

limits_accepted : (s : List ℕ) → Limits s → Accepted s
limits_accepted s = (demand1 s).accepted.1

-- A field of the sheet is that of its own number.
own : (s : List ℕ) → Accepted s → (i : ℕ) → shelf_field (card_of s) (tokens (kind_count s) (field_of s i)) (shelf_number (card_of s) (field_of s i)) ≡ field_of s i
own s ok i = (shelves s (tokens (kind_count s) (field_of s i))).field_number (field_of s i) (field_kinds s (sheet_clear s ok) i) (ap (λ n. tokens n (field_of s i)) (card_kinds s))

-- Shelf number.
module _ (s : List ℕ) (i : ℕ) (answer : Result ShelfNumber Refusal) (e : answer_of shelved answer ≡ shelf_number_of s i) where
  abbrev t : ℕ
  t = tokens (kind_count s) (field_of s i)

  abbrev x : ℕ
  x = shelf_number (card_of s) (field_of s i)

  number_refused : (k p : ℕ) → (finding_of answer ≡ refusal k p) ↔ (first_of (shelf_number_checks s i) ≡ refusal k p)
  unfolding shelf_number_of
  number_refused k p =
      Iff.trans (told_refused shelved answer e k p) (found (λ x. x) _ refused _ refl (λ k p. refl) (first_of (shelf_number_checks s i)) k p)

  number_given : first_of (shelf_number_checks s i) ≡ clear → answer ≡ Ok (numbered t x)
  number_given c = (told_given shelved one_for_each answer e (numbered t x)).1 ((demand1 s).numbered i c)

  number_clear : (u y : ℕ) → answer ≡ Ok (numbered u y) → first_of (shelf_number_checks s i) ≡ clear
  number_clear u y h = cleared (first_of (shelf_number_checks s i)) (λ k p f. other ((number_refused k p).1 f))
    where
      other : {k p : ℕ} → finding_of answer ≡ refusal k p → ⊥
      other g = let z : ◌≡◌ {A = ℕ} 0 1 = cc (ap finding_of h) in omega arith

  -- A number that was given is the field's own.
  number_is : (u y : ℕ) → answer ≡ Ok (numbered u y) → (u ≡ t) × (y ≡ x)
  number_is u y h =
      let g = number_given (number_clear u y h) in
      let q : numbered u y ≡ numbered t x = cc in
      (ap (λ (v : ShelfNumber). v.size) q, ap (λ (v : ShelfNumber). v.number) q)

  taken : (u y : ℕ) → answer ≡ Ok (numbered u y) → Limits s × (i < field_count s) × (t ≤ most_tokens)
  taken u y h = ((demand1 s).number_taken i).0 (number_clear u y h)

  under : Accepted s → x < entry (reached_count (card_of s)) t
  under ok = (shelves s t).number_under (field_of s i) (field_kinds s (sheet_clear s ok) i) (ap (λ n. tokens n (field_of s i)) (card_kinds s))

  number_answers : NumberAnswers s i answer
  number_answers = record {
    answered = ((λ g. taken g.0 g.1 g.2), (λ l. (t, x, number_given (((demand1 s).number_taken i).1 l))));
    refused = number_refused;
    size = λ u y h. let g = number_is u y h in (g.0, rw (g.0, g.1) (under (limits_accepted s (taken u y h).0)));
  }

-- Shelf field.
module _ (s : List ℕ) (t x : ℕ) (buffer after : List ℕ) (d : after ≡ (shelf_field_of s t x buffer).lent) where
  -- Where it is written the buffer begins with the counts of the field.
  begins : first_of (shelf_field_checks s t x (length buffer)) ≡ clear → at (take (kind_count s) after) ≡ shelf_field (card_of s) t x
  unfolding written shelf_counts
  begins c =
      ap at (ap (take (kind_count s)) (d ∙ lent_of ((demand1 s).shelved t x buffer c)) ∙ take_at (shelf_counts s t x) _ (kind_count s) ((demand1 s).shelf_size t x))
      ∙ fun_ext (λ k. each k (dec_lt k (kind_count s)))
    where
      none : (k : ℕ) → ¬ (k < kind_count s) → at (shelf_counts s t x) k ≡ 0
      none k h = get_d_past (shelf_field (card_of s) t x) 0 (kind_count s) k 0 (omega arith)

      all : OfKinds (card_of s) (shelf_field (card_of s) t x)
      all = ((shelves s t).used x (((demand1 s).shelf_taken t x (length buffer)).0 c).2).0

      each : (k : ℕ) → Dec (k < kind_count s) → at (shelf_counts s t x) k ≡ shelf_field (card_of s) t x k
      each k (yes h) = (demand1 s).shelf_counts_is t x k h
      each k (no h) = none k h ∙ past k h (dec_lt 0 (shelf_field (card_of s) t x k))
        where
          past : (k : ℕ) → ¬ (k < kind_count s) → Dec (0 < shelf_field (card_of s) t x k) → 0 ≡ shelf_field (card_of s) t x k
          past k h (yes l) = absurd (omega (arith, under_kinds s k (all k l)))
          past k h (no l) = omega arith

  module _ (answer : Result (Unit {0}) Refusal) (e : answer_of (λ x. tt) answer ≡ (shelf_field_of s t x buffer).answer) where
    field_refused : (k p : ℕ) → (finding_of answer ≡ refusal k p) ↔ (first_of (shelf_field_checks s t x (length buffer)) ≡ refusal k p)
    unfolding shelf_field_of
    field_refused k p =
        Iff.trans (told_refused (λ x. tt) answer e k p)
        (found (λ (x : Lent (Unit {0})). x.answer) (record { answer = given tt; lent = written (shelf_counts s t x) buffer }) (λ k p. record { answer = refused k p; lent = buffer })
        tt refl (λ k p. refl) (first_of (shelf_field_checks s t x (length buffer))) k p)

    field_written : first_of (shelf_field_checks s t x (length buffer)) ≡ clear → answer ≡ Ok tt
    field_written c = (told_given (λ (x : Unit {0}). tt) (λ v w q. refl) answer e tt).1 (answer_of_lem ((demand1 s).shelved t x buffer c))

    field_clear : answer ≡ Ok tt → first_of (shelf_field_checks s t x (length buffer)) ≡ clear
    field_clear h = cleared (first_of (shelf_field_checks s t x (length buffer))) (λ k p f. other ((field_refused k p).1 f))
      where
        other : {k p : ℕ} → finding_of answer ≡ refusal k p → ⊥
        other g = let z : ◌≡◌ {A = ℕ} 0 1 = cc (ap finding_of h) in omega arith

    field_answers : FieldAnswers s t x buffer answer after
    field_answers = record {
      answered = ((λ h. ((demand1 s).shelf_taken t x (length buffer)).0 (field_clear h)), (λ l. field_written (((demand1 s).shelf_taken t x (length buffer)).1 l)));
      refused = field_refused;
      unchanged = λ k p h. d ∙ lent_of ((demand1 s).shelf_refused t x buffer k p ((field_refused k p).0 h));
      used = λ h.
          let b = begins (field_clear h) in
          let u = (shelves s t).used x (((demand1 s).shelf_taken t x (length buffer)).0 (field_clear h)).2 in
          ((λ k l. u.0 k (omega (arith, ap (λ (f : Field). f k) b))), ap (tokens (kind_count s)) b ∙ ap (λ n. tokens n (shelf_field (card_of s) t x)) (sym (card_kinds s)) ∙ u.1);
      others = λ h k out.
          let u = (shelves s t).others x (((demand1 s).shelf_taken t x (length buffer)).0 (field_clear h)).2 k out in
          ap (λ (f : Field). f k) (begins (field_clear h)) ∙ u;
      past = λ e h. ap (λ (xs : List ℕ). at xs e) d ∙ (demand1 s).shelf_past t x buffer e h;
      long = ap length d ∙ (demand1 s).shelf_length t x buffer;
    }

-- The size and the number that a field was given find it.
number_field : (s : List ℕ) (i t x : ℕ) (number : Result ShelfNumber Refusal) (buffer : List ℕ) (field : Result (Unit {0}) Refusal) (after : List ℕ)
    → answer_of shelved number ≡ shelf_number_of s i → answer_of (λ x. tt) field ≡ (shelf_field_of s t x buffer).answer → after ≡ (shelf_field_of s t x buffer).lent
    → number ≡ Ok (numbered t x) → kind_count s ≤ length buffer → (field ≡ Ok tt) × (at (take (kind_count s) after) ≡ field_of s i)
number_field s i t x number buffer field after e f d h l =
    let g = number_is s i number e t x h in
    let w = taken s i number e t x h in
    let c = ((demand1 s).shelf_taken t x (length buffer)).1 (w.0, rw g.0 w.2, ((number_answers s i number e).size t x h).1, l) in
    (field_written s t x buffer after d field f c, begins s t x buffer after d c ∙ rw (g.0, g.1) (own s (limits_accepted s w.0) i))

-- The field found by a size and a number is given these.
field_number : (s : List ℕ) (i t x : ℕ) (number : Result ShelfNumber Refusal) (buffer : List ℕ) (field : Result (Unit {0}) Refusal) (after : List ℕ)
    → answer_of shelved number ≡ shelf_number_of s i → answer_of (λ x. tt) field ≡ (shelf_field_of s t x buffer).answer → after ≡ (shelf_field_of s t x buffer).lent
    → field ≡ Ok tt → i < field_count s → at (take (kind_count s) after) ≡ field_of s i → number ≡ Ok (numbered t x)
field_number s i t x number buffer field after e f d h l m =
    let c = field_clear s t x buffer after d field f h in
    let w = ((demand1 s).shelf_taken t x (length buffer)).0 c in
    let is : field_of s i ≡ shelf_field (card_of s) t x = sym m ∙ begins s t x buffer after d c in
    let u = (shelves s t).used x w.2 in
    let size : tokens (kind_count s) (field_of s i) ≡ t = ap (tokens (kind_count s)) is ∙ ap (λ n. tokens n (shelf_field (card_of s) t x)) (sym (card_kinds s)) ∙ u.1 in
    let same : shelf_number (card_of s) (field_of s i) ≡ x = ap (shelf_number (card_of s)) is ∙ (shelves s t).number_field x w.2 in
    number_given s i number e (((demand1 s).number_taken i).1 (w.0, l, rw size w.1)) ∙ rw (size, same) refl

field_order : (s : List ℕ) (t x y : ℕ) (first second : List ℕ) (before after : Result (Unit {0}) Refusal) (first_after second_after : List ℕ)
    → answer_of (λ x. tt) before ≡ (shelf_field_of s t x first).answer → first_after ≡ (shelf_field_of s t x first).lent → before ≡ Ok tt
    → answer_of (λ x. tt) after ≡ (shelf_field_of s t y second).answer → second_after ≡ (shelf_field_of s t y second).lent → after ≡ Ok tt
    → x < y → Precedes (last_first (card_of s)) (at (take (kind_count s) first_after)) (at (take (kind_count s) second_after))
field_order s t x y first second before after first_after second_after e d h f g l m =
    let c = field_clear s t x first first_after d before e h in
    let k = field_clear s t y second second_after g after f l in
    rw (begins s t x first first_after d c, begins s t y second second_after g k) ((shelves s t).order x y m (((demand1 s).shelf_taken t y (length second)).0 k).2)

number_order : (s : List ℕ) (i j t x y : ℕ) (first second : Result ShelfNumber Refusal) → answer_of shelved first ≡ shelf_number_of s i → answer_of shelved second ≡ shelf_number_of s j
    → first ≡ Ok (numbered t x) → second ≡ Ok (numbered t y) → (x < y) ↔ Precedes (last_first (card_of s)) (field_of s i) (field_of s j)
number_order s i j t x y first second e f h l = (follows x y a b (under_is i first e x h) (under_is j second f y l), before)
  where
    a : shelf_field (card_of s) t x ≡ field_of s i
    a = let g = number_is s i first e t x h in rw (g.0, g.1) (own s (limits_accepted s (taken s i first e t x h).0) i)

    b : shelf_field (card_of s) t y ≡ field_of s j
    b = let g = number_is s j second f t y l in rw (g.0, g.1) (own s (limits_accepted s (taken s j second f t y l).0) j)

    under_is : (k : ℕ) (v : Result ShelfNumber Refusal) → answer_of shelved v ≡ shelf_number_of s k → (z : ℕ) → v ≡ Ok (numbered t z) → z < entry (reached_count (card_of s)) t
    under_is k v q z m = ((number_answers s k v q).size t z m).1

    follows : (x y : ℕ) {p q : Field} → shelf_field (card_of s) t x ≡ p → shelf_field (card_of s) t y ≡ q
        → x < entry (reached_count (card_of s)) t → y < entry (reached_count (card_of s)) t → x < y → Precedes (last_first (card_of s)) p q
    follows x y u v m n lt = rw (← u, ← v) ((shelves s t).order x y lt n)

    before : Precedes (last_first (card_of s)) (field_of s i) (field_of s j) → x < y
    before p = go (dec_lt x y) (dec_lt y x)
      where
        go : Dec (x < y) → Dec (y < x) → x < y
        go (yes lt) _ = lt
        go (no _) (yes gt) = absurd (precedes_one (last_first (card_of s)) (field_of s i) (field_of s j) p (follows y x b a (under_is j second f y l) (under_is i first e x h) gt))
        go (no n) (no m) =
            let z : x ≡ y = omega arith in
            let same : field_of s i ≡ field_of s j = sym a ∙ ap (shelf_field (card_of s) t) z ∙ b in
            absurd (precedes_one (last_first (card_of s)) (field_of s j) (field_of s j) (rw same at p) (rw same at p))

every_field : (s : List ℕ) → Accepted s → (t : ℕ) → t ≤ most_tokens → (a : Field) → OfKinds (card_of s) a → tokens (kind_count s) a ≡ t
    → (x : ℕ) × (x < entry (reached_count (card_of s)) t)
    × ((buffer after : List ℕ) → after ≡ (shelf_field_of s t x buffer).lent → kind_count s ≤ length buffer → at (take (kind_count s) after) ≡ a)
every_field s ok t h a f e =
    let S = shelves s t in
    let z : tokens (card_of s).kinds a ≡ t = ap (λ n. tokens n a) (card_kinds s) ∙ e in
    let u = S.number_under a f z in (
      shelf_number (card_of s) a,
      u,
      λ buffer after d l. begins s t (shelf_number (card_of s) a) buffer after d (((demand1 s).shelf_taken t (shelf_number (card_of s) a) (length buffer)).1 ((demand1 s).accepted.0 ok, h, u, l)) ∙ S.field_number a f z,
    )

pub promises : Promises
promises = record {
  number_answers = number_answers;
  field_answers = λ s t x buffer answer after e d. field_answers s t x buffer after d answer e;
  number_field = number_field;
  field_number = field_number;
  field_order = field_order;
  number_order = number_order;
  every_field = every_field;
}
