-- Walks one after another: a call reads and lowers what its own desk has left, and nothing else, so that the desks of a session do not touch one another.
use mathlib.Core.Bool.{Bool, true, false}
use mathlib.Core.List.{List, [], ◌∷◌}
use mathlib.Core.Path.{◌≡◌, refl, sym, ◌∙◌, ap}
use Prim.Native.Nat.{ℕ, ◌+◌}
use native.Mathlib.Omega.{arith}
use lib.Dec.{eqb}
use Rattle.model.specs.Finite.{keep, sum}
use Rattle.model.specs.Field.{at}
use Rattle.model.specs.Walk.{WalkAnswer, Walk}
use Rattle.model.specs.Refusal.{Finding, clear, refusal, first_of, walk_checks}
use Rattle.model.specs.Answer.{Answer, given, Session, Walked, within, full_walk, walk_of}
use Rattle.model.specs.Days.{WalkCall, walk_by, Made, calls_by, made_by, day, left_after, answers_of, draws_of}
use Rattle.theory.specs.Days.{Day}
use Rattle.theory.proofs.Exec.{Tells, tells_eq}
use Rattle.theory.proofs.Answers.{walk_clear, demand1}

-- A call reads of the session what its desk has left, and nothing else.
reads_own : (s : List ℕ) (i j limit d : ℕ) (v u : Session) → at v.left d ≡ at u.left d
    → ((walk_of s i j limit d v).answer ≡ (walk_of s i j limit d u).answer) × ((walk_of s i j limit d v).drawn ≡ (walk_of s i j limit d u).drawn)
reads_own s i j limit d v u q = go (first_of (walk_checks s i j limit d)) refl
  where
    W : ℕ → Walk
    W x = within x (full_walk s i j limit)

    go : (f : Finding) → first_of (walk_checks s i j limit d) ≡ f
        → ((walk_of s i j limit d v).answer ≡ (walk_of s i j limit d u).answer) × ((walk_of s i j limit d v).drawn ≡ (walk_of s i j limit d u).drawn)
    go clear e = rw (walk_clear s i j limit d v e, walk_clear s i j limit d u e) (ap (λ x. given (W x).found) q, ap (λ x. (W x).count) q)
    go (refusal k p) e = rw ((demand1 s).walk_refused i j limit d v k p e, (demand1 s).walk_refused i j limit d u k p e) (refl, refl)

module _ (d : ℕ) where
  -- What each call does to what desk d has left: its own draws of it, the others leave it.
  own_loses : (x : WalkCall) (v : Session) → x.desk ≡ d → at (walk_by x v).after.left d + (walk_by x v).drawn ≡ at v.left d
  own_loses x v e = let l = (demand1 x.sheet).walk_loses x.first x.second x.limit x.desk v in rw (sym e) l

  other_keeps : (x : WalkCall) (v : Session) → ¬ (x.desk ≡ d) → at (walk_by x v).after.left d ≡ at v.left d
  other_keeps x v n = (demand1 x.sheet).walk_others x.first x.second x.limit x.desk v d (λ e. n (sym e))

  draws_sum : (xs : List WalkCall) (v : Session) → at (left_after v (day xs v)).left d + sum (draws_of (made_by d (day xs v))) ≡ at v.left d
  unfolding day left_after made_by keep sum
  draws_sum [] v = omega arith
  draws_sum (x ∷ xs) v = go (eqb x.desk d) (tells_eq x.desk d) (draws_sum xs (walk_by x v).after)
    where
      w : Walked
      w = walk_by x v

      rest : List (Made Walked)
      rest = day xs w.after

      go : (b : Bool) → Tells b (x.desk ≡ d) → at (left_after w.after rest).left d + sum (draws_of (made_by d rest)) ≡ at w.after.left d
          → at (left_after w.after rest).left d
          + sum (draws_of (elim b as (λ _. List (Made Walked)) [ true ↦ record { call = x; walked = w } ∷ made_by d rest | false ↦ made_by d rest ])) ≡ at v.left d
      go true t r = omega (arith, r, own_loses x v (t.fact tt))
      go false t r = r ∙ other_keeps x v t.test

  -- Two lists of calls that came to the same for desk d, and the sessions that they left.
  abbrev Alike : List (Made Walked) → Session → List (Made Walked) → Session → Type 0
  Alike ms v ns u = (answers_of ms ≡ answers_of ns) × (draws_of ms ≡ draws_of ns) × (at v.left d ≡ at u.left d)

  -- The calls of the desk, one by one: a call by another desk is passed over, and the desk's own is answered from what it has left.
  own_calls : (xs : List WalkCall) (v u : Session) → at v.left d ≡ at u.left d
      → Alike (made_by d (day xs v)) (left_after v (day xs v)) (day (calls_by d xs) u) (left_after u (day (calls_by d xs) u))
  unfolding day left_after made_by calls_by keep
  own_calls [] v u q = (refl, refl, q)
  own_calls (x ∷ xs) v u q = go (eqb x.desk d) (tells_eq x.desk d) (own_calls xs (walk_by x v).after)
    where
      w : Walked
      w = walk_by x v

      rest : List (Made Walked)
      rest = day xs w.after

      own : List WalkCall
      own = calls_by d xs

      go : (b : Bool) → Tells b (x.desk ≡ d)
          → ((z : Session) → at w.after.left d ≡ at z.left d → Alike (made_by d rest) (left_after w.after rest) (day own z) (left_after z (day own z)))
          → Alike
          (elim b as (λ _. List (Made Walked)) [ true ↦ record { call = x; walked = w } ∷ made_by d rest | false ↦ made_by d rest ])
          (left_after w.after rest)
          (day (elim b as (λ _. List WalkCall) [ true ↦ x ∷ own | false ↦ own ]) u)
          (left_after u (day (elim b as (λ _. List WalkCall) [ true ↦ x ∷ own | false ↦ own ]) u))
      go true t r =
          let e = t.fact tt in
          let o = reads_own x.sheet x.first x.second x.limit x.desk v u (ap (at v.left) e ∙ q ∙ ap (at u.left) (sym e)) in
          let k = r (walk_by x u).after (omega (arith, own_loses x v e, own_loses x u e, o.1)) in (
            ap (λ (a : Answer WalkAnswer). a ∷ answers_of (made_by d rest)) o.0 ∙ ap (λ (l : List (Answer WalkAnswer)). (walk_by x u).answer ∷ l) k.0,
            ap (λ (n : ℕ). n ∷ draws_of (made_by d rest)) o.1 ∙ ap (λ (l : List ℕ). (walk_by x u).drawn ∷ l) k.1,
            k.2,
          )
      go false t r = r u (other_keeps x v t.test ∙ q)

  day_kept : (xs : List WalkCall) (v : Session) → Day xs v d
  day_kept xs v =
      let o = own_calls xs v v refl in
      record {
        draws_sum = draws_sum xs v;
        own_answers = o.0;
        own_draws = o.1;
        own_left = o.2;
        only_own = λ ys u c q.
            let p = own_calls ys u v (sym q) in (
              o.0 ∙ ap (λ (l : List WalkCall). answers_of (day l v)) c ∙ sym p.0,
              o.1 ∙ ap (λ (l : List WalkCall). draws_of (day l v)) c ∙ sym p.1,
              o.2 ∙ ap (λ (l : List WalkCall). at (left_after v (day l v)).left d) c ∙ sym p.2,
            );
      }

pub days : (calls : List WalkCall) (v : Session) (d : ℕ) → Day calls v d
days calls v d = day_kept d calls v
