-- What a day of calls means, carried over from the model's days: the calls that met their contracts in turn are the model's day of the same calls.
use mathlib.Core.Bool.{Bool, true, false}
use mathlib.Core.List.{List, [], ◌∷◌, map}
use mathlib.Core.Path.{◌≡◌, refl, sym, ap, ◌∙◌}
use Prim.Native.Nat.{ℕ}
use native.Mathlib.Omega.{arith}
use lib.Dec.{eqb}
use Rattle.model.specs.Finite.{keep, sum}
use Rattle.model.specs.Field.{at}
use Rattle.model.specs.Walk.{WalkAnswer}
use Rattle.model.specs.Answer as model
use Rattle.model.specs.Days as calls
use Rattle.model.specs.Days.{WalkCall, Made, made_by, day}
use Rattle.theory.specs.Days as claims
use Rattle.theory.proofs.Days.{days}
use Rattle.walker.specs.Answers.{answer_of, session_of, walked_of}
use Rattle.walker.specs.Promises.{InTurn, left_after, calls_of, answers_of, draws_of, DayMeans}
use Rattle.walker.specs.declared.entry.Answer.{Answer}
use Rattle.walker.specs.declared.entry.Answer.TheVariants.{Apart, Together, Spent, Refused}
use Rattle.walker.specs.declared.entry.Session.{Session}
use Rattle.walker.specs.declared.entry.Walked.{Walked}

-- The cases have different values.
pub answer_only : (v w : Answer) → answer_of v ≡ answer_of w → v ≡ w
answer_only (Apart r) (Apart q) e = cc
answer_only (Apart r) Together e = let z : ◌≡◌ {A = ℕ} 0 1 = cc in absurd (omega arith)
answer_only (Apart r) Spent e = let z : ◌≡◌ {A = ℕ} 0 1 = cc in absurd (omega arith)
answer_only (Apart r) (Refused k p) e = let z : ◌≡◌ {A = ℕ} 0 1 = cc in absurd (omega arith)
answer_only Together (Apart r) e = let z : ◌≡◌ {A = ℕ} 0 1 = cc in absurd (omega arith)
answer_only Together Together e = refl
answer_only Together Spent e = let z : ◌≡◌ {A = ℕ} 0 1 = cc in absurd (omega arith)
answer_only Together (Refused k p) e = let z : ◌≡◌ {A = ℕ} 0 1 = cc in absurd (omega arith)
answer_only Spent (Apart r) e = let z : ◌≡◌ {A = ℕ} 0 1 = cc in absurd (omega arith)
answer_only Spent Together e = let z : ◌≡◌ {A = ℕ} 0 1 = cc in absurd (omega arith)
answer_only Spent Spent e = refl
answer_only Spent (Refused k p) e = let z : ◌≡◌ {A = ℕ} 0 1 = cc in absurd (omega arith)
answer_only (Refused k p) (Apart r) e = let z : ◌≡◌ {A = ℕ} 0 1 = cc in absurd (omega arith)
answer_only (Refused k p) Together e = let z : ◌≡◌ {A = ℕ} 0 1 = cc in absurd (omega arith)
answer_only (Refused k p) Spent e = let z : ◌≡◌ {A = ℕ} 0 1 = cc in absurd (omega arith)
answer_only (Refused k p) (Refused i q) e = cc

answers_only : (vs ws : List Answer) → map answer_of vs ≡ map answer_of ws → vs ≡ ws
answers_only [] [] e = refl
answers_only [] (w ∷ ws) e = let z : ◌≡◌ {A = ℕ} 0 1 = cc in absurd (omega arith)
answers_only (v ∷ vs) [] e = let z : ◌≡◌ {A = ℕ} 0 1 = cc in absurd (omega arith)
answers_only (v ∷ vs) (w ∷ ws) e =
    let a : answer_of v ≡ answer_of w = cc in
    let rest : map answer_of vs ≡ map answer_of ws = cc in
    ap (λ (x : Answer). x ∷ vs) (answer_only v w a) ∙ ap (λ (l : List Answer). w ∷ l) (answers_only vs ws rest)

-- The calls that were made, as the model has them.
model_of : Made Walked → Made model.Walked
model_of m = record { call = m.call; walked = walked_of m.walked }

in_turn : (before : Session) (ms : List (Made Walked)) → InTurn before ms → map model_of ms ≡ day (calls_of ms) (session_of before)
unfolding InTurn day model_of
in_turn before [] h = refl
in_turn before (m ∷ ms) h =
    ap (λ (w : model.Walked). record { call = m.call; walked = w } ∷ map model_of ms) h.0
    ∙ ap (λ (l : List (Made model.Walked)). record { call = m.call; walked = calls.walk_by m.call (session_of before) } ∷ l) (in_turn m.walked.session ms h.1)
    ∙ ap (λ (v : model.Session). record { call = m.call; walked = calls.walk_by m.call (session_of before) } ∷ day (calls_of ms) v) (ap (λ (w : model.Walked). w.after) h.0)

left_is : (before : Session) (ms : List (Made Walked)) → session_of (left_after before ms) ≡ calls.left_after (session_of before) (map model_of ms)
unfolding left_after calls.left_after model_of
left_is before [] = refl
left_is before (m ∷ ms) = left_is m.walked.session ms

own_is : (d : ℕ) (ms : List (Made Walked)) → map model_of (made_by d ms) ≡ made_by d (map model_of ms)
unfolding made_by keep model_of
own_is d [] = refl
own_is d (m ∷ ms) = go (eqb m.call.desk d) (own_is d ms)
  where
    go : (b : Bool) → map model_of (made_by d ms) ≡ made_by d (map model_of ms)
        → map model_of (elim b as (λ _. List (Made Walked)) [ true ↦ m ∷ made_by d ms | false ↦ made_by d ms ])
        ≡ (elim b as (λ _. List (Made model.Walked)) [ true ↦ model_of m ∷ made_by d (map model_of ms) | false ↦ made_by d (map model_of ms) ])
    go true e = ap (λ (l : List (Made model.Walked)). model_of m ∷ l) e
    go false e = e

answers_are : (ms : List (Made Walked)) → map answer_of (answers_of ms) ≡ calls.answers_of (map model_of ms)
unfolding model_of
answers_are [] = refl
answers_are (m ∷ ms) = ap (λ (l : List (model.Answer WalkAnswer)). answer_of m.walked.answer ∷ l) (answers_are ms)

draws_are : (ms : List (Made Walked)) → draws_of ms ≡ calls.draws_of (map model_of ms)
unfolding model_of
draws_are [] = refl
draws_are (m ∷ ms) = ap (λ (l : List ℕ). m.walked.drawn ∷ l) (draws_are ms)

-- What a day comes to, as the model's day of the same calls has it.
module _ (before : Session) (ms : List (Made Walked)) (made : InTurn before ms) where
  left_of : (d : ℕ) → at (left_after before ms).left d ≡ at (calls.left_after (session_of before) (day (calls_of ms) (session_of before))).left d
  left_of d =
      ap (λ (v : model.Session). at v.left d) (left_is before ms)
      ∙ ap (λ (l : List (Made model.Walked)). at (calls.left_after (session_of before) l).left d) (in_turn before ms made)

  answers_of_is : map answer_of (answers_of ms) ≡ calls.answers_of (day (calls_of ms) (session_of before))
  answers_of_is = answers_are ms ∙ ap calls.answers_of (in_turn before ms made)

  draws_of_is : draws_of ms ≡ calls.draws_of (day (calls_of ms) (session_of before))
  draws_of_is = draws_are ms ∙ ap calls.draws_of (in_turn before ms made)

  own_of : (d : ℕ) → map model_of (made_by d ms) ≡ made_by d (day (calls_of ms) (session_of before))
  own_of d = own_is d ms ∙ ap (made_by d) (in_turn before ms made)

  own_answers_of : (d : ℕ) → map answer_of (answers_of (made_by d ms)) ≡ calls.answers_of (made_by d (day (calls_of ms) (session_of before)))
  own_answers_of d = answers_are (made_by d ms) ∙ ap calls.answers_of (own_of d)

  own_draws_of : (d : ℕ) → draws_of (made_by d ms) ≡ calls.draws_of (made_by d (day (calls_of ms) (session_of before)))
  own_draws_of d = draws_are (made_by d ms) ∙ ap calls.draws_of (own_of d)

pub day_means : (before : Session) (ms : List (Made Walked)) → InTurn before ms → (d : ℕ) → DayMeans before ms d
day_means before ms made d =
    let v = session_of before in
    let D : claims.Day (calls_of ms) v d = days (calls_of ms) v d in
    record {
      draws_sum = omega (arith, left_of before ms made d, ap sum (own_draws_of before ms made d), D.draws_sum);
      own = λ alone turns asked. (
        answers_only (answers_of (made_by d ms)) (answers_of alone)
            (own_answers_of before ms made d ∙ D.own_answers ∙ ap (λ (l : List WalkCall). calls.answers_of (day l v)) (sym asked) ∙ sym (answers_of_is before alone turns)),
        own_draws_of before ms made d ∙ D.own_draws ∙ ap (λ (l : List WalkCall). calls.draws_of (day l v)) (sym asked) ∙ sym (draws_of_is before alone turns),
        left_of before ms made d ∙ D.own_left ∙ ap (λ (l : List WalkCall). at (calls.left_after v (day l v)).left d) (sym asked) ∙ sym (left_of before alone turns d),
      );
      only_own = λ other ns turns asked same.
          let O = D.only_own (calls_of ns) (session_of other) asked same in (
            answers_only (answers_of (made_by d ms)) (answers_of (made_by d ns)) (own_answers_of before ms made d ∙ O.0 ∙ sym (own_answers_of other ns turns d)),
            own_draws_of before ms made d ∙ O.1 ∙ sym (own_draws_of other ns turns d),
            left_of before ms made d ∙ O.2 ∙ sym (left_of other ns turns d),
          );
    }
