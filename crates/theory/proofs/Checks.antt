-- Laws for lists of checks: when they come out clear, and which refusal comes first.
use mathlib.Core.Bool.{Bool, true, false, not}
use mathlib.Core.List.{List, ◌∷◌, ◌++◌}
use mathlib.Core.Path.{◌≡◌, refl, sym, ◌∙◌}
use Prim.Native.Nat.{ℕ, zero, suc, ◌+◌, ◌≤◌, ◌<◌}
use native.Mathlib.Decide.{dec_lt}
use native.Mathlib.Omega.{arith}
use lib.Dec.{T, ltb, eqb}
use Rattle.model.specs.Finite.{either, concat, list_from}
use Rattle.model.specs.Refusal.{Check, check, clear, refusal, Finding, first_of, outside, differ}
use Rattle.theory.proofs.Exec.{Tells, tells_lt, tells_eq}
use Rattle.theory.proofs.Sheets.{first_append, then, then_clear, clear_cons, clear_nil}

pub not_outside : (low high x : ℕ) → low ≤ x → x ≤ high → ¬ T (outside low high x)
not_outside low high x h k = go (ltb x low) (tells_lt x low)
  where
    go : (b : Bool) → Tells b (x < low) → ¬ T (either b (ltb high x))
    go true t _ = omega (arith, t.fact tt)
    go false t u = omega (arith, (tells_lt high x).fact u)

pub not_differ : (x y : ℕ) → x ≡ y → ¬ T (differ x y)
not_differ x y e = go (eqb x y) (tells_eq x y)
  where
    go : (b : Bool) → Tells b (x ≡ y) → ¬ T (not b)
    go true t u = u
    go false t u = t.test e

pub both_then : (f g : Finding) → f ≡ clear → g ≡ clear → then f g ≡ clear
unfolding then
both_then f g e d = rw e d

pub all_clear : (f : ℕ → List Check) (i m : ℕ) → ((j : ℕ) → j < m → first_of (f (i + j)) ≡ clear) → first_of (concat (list_from f i m)) ≡ clear
unfolding concat list_from
all_clear f i zero h = clear_nil
all_clear f i (suc m) h =
    let z : i + 0 ≡ i = omega arith in
    first_append (f i) (concat (list_from f (suc i) m)) ∙ both_then (first_of (f i)) (first_of (concat (list_from f (suc i) m))) (rw z at (h 0 (omega arith)))
    (all_clear f (suc i) m (λ j l. let q : i + suc j ≡ suc i + j = omega arith in rw q at (h (suc j) (omega arith))))

pub each_clear : (k : ℕ) (p : ℕ → Bool) (i m : ℕ) → ((j : ℕ) → j < m → ¬ T (p (i + j))) → first_of (list_from (λ j. check k j (p j)) i m) ≡ clear
unfolding list_from
each_clear k p i zero h = clear_nil
each_clear k p i (suc m) h =
    let z : i + 0 ≡ i = omega arith in
    clear_cons k i (p i) (list_from (λ j. check k j (p j)) (suc i) m) (rw z at (h 0 (omega arith)))
    (each_clear k p (suc i) m (λ j l. let q : i + suc j ≡ suc i + j = omega arith in rw q at (h (suc j) (omega arith))))

pub from_outside : (low high x : ℕ) → ¬ T (outside low high x) → (low ≤ x) × (x ≤ high)
from_outside low high x = go (ltb x low) (tells_lt x low)
  where
    go : (b : Bool) → Tells b (x < low) → ¬ T (either b (ltb high x)) → (low ≤ x) × (x ≤ high)
    go true t n = absurd (n tt)
    go false t n = pair (dec_lt x low) (dec_lt high x)
      where
        pair : Dec (x < low) → Dec (high < x) → (low ≤ x) × (x ≤ high)
        pair (yes p) d = absurd (t.test p)
        pair (no p) (yes q) = absurd (n ((tells_lt high x).test q))
        pair (no p) (no q) = (omega arith, omega arith)

pub from_less : (i n : ℕ) → ¬ T (ltb i n) → n ≤ i
from_less i n m = go (dec_lt i n)
  where
    go : Dec (i < n) → n ≤ i
    go (yes h) = absurd (m ((tells_lt i n).test h))
    go (no h) = omega arith

pub from_some : (n : ℕ) → ¬ T (eqb n 0) → 0 < n
from_some n m = go (dec_lt 0 n)
  where
    go : Dec (0 < n) → 0 < n
    go (yes h) = h
    go (no h) = absurd (m ((tells_eq n 0).test (omega arith)))

pub not_none : (n : ℕ) → 0 < n → ¬ T (eqb n 0)
not_none n h t = omega (arith, (tells_eq n 0).fact t)

pub from_differ : (x y : ℕ) → ¬ T (differ x y) → x ≡ y
from_differ x y = go (eqb x y) (tells_eq x y)
  where
    go : (b : Bool) → Tells b (x ≡ y) → ¬ T (not b) → x ≡ y
    go true t n = t.fact tt
    go false t n = absurd (n tt)

pub all_none : (f : ℕ → List Check) (i m : ℕ) → first_of (concat (list_from f i m)) ≡ clear → (j : ℕ) → j < m → first_of (f (i + j)) ≡ clear
unfolding concat list_from
all_none f i zero e j h = absurd (omega arith)
all_none f i (suc m) e zero h =
    let z : i + 0 ≡ i = omega arith in
    rw z (then_clear (first_of (f i)) (first_of (concat (list_from f (suc i) m))) (sym (first_append (f i) (concat (list_from f (suc i) m))) ∙ e)).0
all_none f i (suc m) e (suc j) h =
    let z : i + suc j ≡ suc i + j = omega arith in
    rw z (all_none f (suc i) m (then_clear (first_of (f i)) (first_of (concat (list_from f (suc i) m))) (sym (first_append (f i) (concat (list_from f (suc i) m))) ∙ e)).1 j (omega arith))

pub cons_none : (k p : ℕ) (b : Bool) (xs : List Check) → first_of (check k p b ∷ xs) ≡ clear → (¬ T b) × (first_of xs ≡ clear)
unfolding first_of
cons_none k p true xs e = let z : ◌≡◌ {A = ℕ} 0 1 = cc in absurd (omega arith)
cons_none k p false xs e = ((λ t. t), e)

pub each_none : (k : ℕ) (p : ℕ → Bool) (i m : ℕ) → first_of (list_from (λ j. check k j (p j)) i m) ≡ clear → (j : ℕ) → j < m → ¬ T (p (i + j))
unfolding list_from
each_none k p i zero e j h = absurd (omega arith)
each_none k p i (suc m) e zero h = let z : i + 0 ≡ i = omega arith in rw z (cons_none k i (p i) (list_from (λ j. check k j (p j)) (suc i) m) e).0
each_none k p i (suc m) e (suc j) h =
    let z : i + suc j ≡ suc i + j = omega arith in
    rw z (each_none k p (suc i) m (cons_none k i (p i) (list_from (λ j. check k j (p j)) (suc i) m) e).1 j (omega arith))

-- What is found first in two lists of checks.
pub first_left : (xs ys : List Check) (k p : ℕ) → first_of xs ≡ refusal k p → first_of (xs ++ ys) ≡ refusal k p
unfolding then
first_left xs ys k p e = first_append xs ys ∙ rw e refl

pub first_right : (xs ys : List Check) → first_of xs ≡ clear → first_of (xs ++ ys) ≡ first_of ys
unfolding then
first_right xs ys e = first_append xs ys ∙ rw e refl

pub first_here : (x : Check) (xs : List Check) → T x.applies → first_of (x ∷ xs) ≡ refusal x.number x.place
unfolding first_of
first_here x xs t = go x.applies t
  where
    go : (b : Bool) → T b → (elim b as (λ _. Finding) [ true ↦ refusal x.number x.place | false ↦ first_of xs ]) ≡ refusal x.number x.place
    go true t = refl
    go false t = absurd t

pub first_later : (x : Check) (xs : List Check) → ¬ T x.applies → first_of (x ∷ xs) ≡ first_of xs
unfolding first_of
first_later x xs n = go x.applies n
  where
    go : (b : Bool) → ¬ T b → (elim b as (λ _. Finding) [ true ↦ refusal x.number x.place | false ↦ first_of xs ]) ≡ first_of xs
    go true n = absurd (n tt)
    go false n = refl

-- Nothing applies below j, and one applies at j.
pub first_of_each : (f : ℕ → Check) (i m j : ℕ) → j < m → ((q : ℕ) → q < j → ¬ T (f (i + q)).applies) → T (f (i + j)).applies
    → first_of (list_from f i m) ≡ refusal (f (i + j)).number (f (i + j)).place
unfolding list_from
first_of_each f i zero j h n t = absurd (omega arith)
first_of_each f i (suc m) zero h n t = let z : i + 0 ≡ i = omega arith in rw z (first_here (f i) (list_from f (suc i) m) (rw z at t))
first_of_each f i (suc m) (suc j) h n t =
    let z : i + 0 ≡ i = omega arith in
    let y : i + suc j ≡ suc i + j = omega arith in
    first_later (f i) (list_from f (suc i) m) (rw z at (n 0 (omega arith)))
    ∙ rw y (first_of_each f (suc i) m j (omega arith) (λ q l. let x : i + suc q ≡ suc i + q = omega arith in rw x at (n (suc q) (omega arith))) (rw y at t))

pub first_of_all : (f : ℕ → List Check) (i m j k p : ℕ) → j < m → ((q : ℕ) → q < j → first_of (f (i + q)) ≡ clear) → first_of (f (i + j)) ≡ refusal k p
    → first_of (concat (list_from f i m)) ≡ refusal k p
unfolding concat list_from
first_of_all f i zero j k p h n e = absurd (omega arith)
first_of_all f i (suc m) zero k p h n e =
    let z : i + 0 ≡ i = omega arith in
    first_left (f i) (concat (list_from f (suc i) m)) k p (rw z at e)
first_of_all f i (suc m) (suc j) k p h n e =
    let z : i + 0 ≡ i = omega arith in
    let y : i + suc j ≡ suc i + j = omega arith in
    first_right (f i) (concat (list_from f (suc i) m)) (rw z at (n 0 (omega arith)))
    ∙ first_of_all f (suc i) m j k p (omega arith) (λ q l. let x : i + suc q ≡ suc i + q = omega arith in rw x at (n (suc q) (omega arith))) (rw y at e)
