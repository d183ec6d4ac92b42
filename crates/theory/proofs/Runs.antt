-- Laws of a run through a list that an allowance may end: what does not pass a test is passed over, and each of the others follows the one before.
use mathlib.Core.Bool.{Bool, true, false}
use mathlib.Core.List.{List, [], ◌∷◌, ◌++◌}
use mathlib.Core.Path.{◌≡◌, refl, sym, ap, ◌∙◌}
use Prim.Native.Nat.{ℕ, zero, suc, ◌+◌, ◌-◌, ◌≤◌, ◌<◌}
use native.Mathlib.Omega.{arith}
use lib.Dec.{ltb, eqb}
use Rattle.model.specs.Finite.{both, list_from, least_from}
use Rattle.model.specs.Field.{Field}
use Rattle.model.specs.Card.{Line, fire}
use Rattle.model.specs.Walk.{Seen, try_replies, try_challenges}
use Rattle.theory.specs.Counted.{Counted, holds, fails, spent, outcome, cut}
use Rattle.theory.proofs.Lists.{from_append, least_within, least_test}
use Rattle.theory.proofs.Counted.{cut_none, follow, follow_none, none_followed, then_holds, then_fails}

-- With none of the list it is h, what does not pass is passed over, and after what does, the rest follow where it is h.
pub record Runs {A : Type 0} (p : A → Bool) (h : Bool) (one : A → Seen) (run : List A → Seen) : Type 0 where
  pub none : run [] ≡ record { holds = h; count = 0 }
  pub pass : (x : A) (xs : List A) → p x ≡ false → run (x ∷ xs) ≡ run xs
  pub step : (v : ℕ) (x : A) (xs : List A) → p x ≡ true → cut v (run (x ∷ xs)) ≡ follow h (cut v (one x)) (run xs)

module _ {A : Type 0} {p : A → Bool} {h : Bool} {one : A → Seen} {run : List A → Seen} (runs : Runs p h one run) where
  empty : (v : ℕ) → cut v (run []) ≡ outcome h v
  empty v = ap (cut v) runs.none ∙ cut_none v h

  -- One alone, that does not pass or does.
  pub one_passed : (v : ℕ) (x : A) → p x ≡ false → outcome h v ≡ cut v (run (x ∷ []))
  one_passed v x e = sym (ap (cut v) (runs.pass x [] e) ∙ empty v)

  pub one_played : (v : ℕ) (x : A) → p x ≡ true → cut v (one x) ≡ cut v (run (x ∷ []))
  one_played v x e = sym (runs.step v x [] e ∙ ap (λ (q : Seen). follow h (cut v (one x)) q) runs.none ∙ follow_none h (cut v (one x)))

  -- Some, and then others.
  pub appended : (xs ys : List A) (v : ℕ) → cut v (run (xs ++ ys)) ≡ follow h (cut v (run xs)) (run ys)
  appended [] ys v = sym (none_followed h v (run ys)) ∙ ap (λ (e : Counted). follow h e (run ys)) (sym (empty v))
  appended (x ∷ xs) ys v = go (p x) refl (appended xs ys)
    where
      twice : (h : Bool) (e : Counted) → ((v : ℕ) → cut v (run (xs ++ ys)) ≡ follow h (cut v (run xs)) (run ys)) → follow h e (run (xs ++ ys)) ≡ follow h (follow h e (run xs)) (run ys)
      twice true (holds u) t = t u
      twice true (fails u) t = refl
      twice true spent t = refl
      twice false (holds u) t = refl
      twice false (fails u) t = t u
      twice false spent t = refl

      go : (b : Bool) → p x ≡ b → ((v : ℕ) → cut v (run (xs ++ ys)) ≡ follow h (cut v (run xs)) (run ys))
          → cut v (run (x ∷ (xs ++ ys))) ≡ follow h (cut v (run (x ∷ xs))) (run ys)
      go false e t = ap (cut v) (runs.pass x (xs ++ ys) e) ∙ t v ∙ ap (λ (s : Seen). follow h (cut v s) (run ys)) (sym (runs.pass x xs e))
      go true e t = runs.step v x (xs ++ ys) e ∙ twice h (cut v (one x)) t ∙ ap (λ (c : Counted). follow h c (run ys)) (sym (runs.step v x xs e))

  -- The list is f of the numbers from one up to another.
  module _ (f : ℕ → A) where
    abbrev part : ℕ → ℕ → Seen
    part from to = run (list_from f from (to - from))

    -- The first of them that passes.
    abbrev next : ℕ → ℕ → ℕ
    next from to = least_from (λ i. p (f i)) from (to - from)

    passed_over : (i m : ℕ) → run (list_from f i m) ≡ run (list_from f (least_from (λ j. p (f j)) i m) (i + m - least_from (λ j. p (f j)) i m))
    unfolding least_from list_from
    passed_over i zero = let e : i + 0 - i ≡ 0 = omega arith in rw e refl
    passed_over i (suc m) = go (p (f i)) refl (passed_over (suc i) m)
      where
        k : ℕ
        k = least_from (λ j. p (f j)) (suc i) m

        go : (b : Bool) → p (f i) ≡ b → run (list_from f (suc i) m) ≡ run (list_from f k (suc i + m - k))
            → run (f i ∷ list_from f (suc i) m) ≡ run (list_from f (elim b as (λ _. ℕ) [ true ↦ i | false ↦ k ]) (i + suc m - (elim b as (λ _. ℕ) [ true ↦ i | false ↦ k ])))
        go true e r = let d : i + suc m - i ≡ suc m = omega arith in rw d refl
        go false e r = let d : suc i + m - k ≡ i + suc m - k = omega arith in runs.pass (f i) (list_from f (suc i) m) e ∙ r ∙ ap (λ (n : ℕ). run (list_from f k n)) d

    module _ (from to v : ℕ) where
      -- There is none.
      pub run_end : to ≤ from → outcome h v ≡ cut v (part from to)
      unfolding list_from
      run_end l = let z : to - from ≡ 0 = omega arith in sym (empty v) ∙ rw z refl

      -- The first member, and then the others.
      pub run_first : from < to → cut v (part from to) ≡ follow h (cut v (run (f from ∷ []))) (part (from + 1) to)
      unfolding list_from
      run_first l =
          let d : to - from ≡ suc (to - (from + 1)) = omega arith in
          let z : suc from ≡ from + 1 = omega arith in
          ap (λ (m : ℕ). cut v (run (list_from f from m))) d
          ∙ ap (λ (i : ℕ). cut v (run (f from ∷ list_from f i (to - (from + 1))))) z
          ∙ appended (f from ∷ []) (list_from f (from + 1) (to - (from + 1))) v

      -- The members up to a middle, and then the others.
      pub run_halves : (middle : ℕ) → from ≤ middle → middle ≤ to → cut v (part from to) ≡ follow h (cut v (part from middle)) (part middle to)
      run_halves middle a b =
          let d : to - from ≡ middle - from + (to - middle) = omega arith in
          let z : from + (middle - from) ≡ middle = omega arith in
          ap (λ (m : ℕ). cut v (run (list_from f from m))) d
          ∙ ap (λ (xs : List A). cut v (run xs)) (from_append f from (middle - from) (to - middle))
          ∙ appended (list_from f from (middle - from)) (list_from f (from + (middle - from)) (to - middle)) v
          ∙ ap (λ (i : ℕ). follow h (cut v (part from middle)) (run (list_from f i (to - middle)))) z

    module _ (from to v : ℕ) (fits : from ≤ to) (k : ℕ) (e : k ≡ next from to) where
      from_next : part from to ≡ part k to
      from_next = let d : from + (to - from) ≡ to = omega arith in rw e (passed_over from (to - from) ∙ ap (λ (n : ℕ). run (list_from f (next from to) (n - next from to))) d)

      -- None of them passes.
      pub run_none : k ≡ to → outcome h v ≡ cut v (part from to)
      run_none d = run_end k to v (omega arith) ∙ ap (cut v) (sym from_next)

      -- The first that passes, and then the others.
      pub run_next : ¬ (k ≡ to) → cut v (part from to) ≡ follow h (cut v (one (f k))) (part (k + 1) to)
      run_next n =
          let t = least_within (λ i. p (f i)) from to fits in
          let l : k < to = omega (arith, t.1) in
          ap (cut v) from_next
          ∙ run_first k to v l
          ∙ ap (λ (c : Counted). follow h c (part (k + 1) to)) (sym (one_played v (f k) (rw e (least_test (λ i. p (f i)) from to fits (rw e at l)))))

-- "the first challenge with no such reply ends the pair": the challenges of side a.
pub challenges : (see : Field → Field → Seen) (xs : List Line) (a b : Field) → Runs (λ l. ltb 0 (a l.kind)) true (λ l. try_replies see l (fire l a) b xs) (try_challenges see xs a b)
unfolding try_challenges
challenges see xs a b = record {
  none = refl;
  pass = λ l ls e. rw (e, try_challenges) refl;
  step = λ v l ls e. ap (cut v) (rw (e, try_challenges) refl) ∙ then_holds v (try_challenges see xs a b ls) (try_replies see l (fire l a) b xs);
}

-- "replies in line order up to the first that holds": the replies of b to the challenge l that left x.
pub replies : (see : Field → Field → Seen) (l : Line) (x b : Field) → Runs (λ m. both (ltb 0 (b m.kind)) (eqb m.code l.code)) false (λ m. see x (fire m b)) (try_replies see l x b)
unfolding try_replies
replies see l x b = record {
  none = refl;
  pass = λ m ms e. rw (e, try_replies) refl;
  step = λ v m ms e. ap (cut v) (rw (e, try_replies) refl) ∙ then_fails v (try_replies see l x b ms) (see x (fire m b));
}
