-- The check that a refusal comes from: of lists in order, of one check, of the two checks of a line.
use mathlib.Core.Bool.{Bool, true, false, not}
use mathlib.Core.List.{List, [], ◌∷◌}
use mathlib.Core.Logic.{◌↔◌}
use mathlib.Core.Path.{◌≡◌, refl, sym, ◌∙◌, ap}
use Prim.Native.Nat.{ℕ, zero, suc, ◌+◌, ◌<◌}
use native.Mathlib.Omega.{arith}
use Rattle.model.specs.Finite.{concat, list_from}
use Rattle.model.specs.Refusal.{Check, check, Finding, clear, refusal, first_of}
use Rattle.theory.proofs.Exec.{Tells}
use Rattle.theory.proofs.Sheets.{never, first_append, then}
use Rattle.theory.proofs.Checks.{first_of_all, first_here}

-- Refusals with different numbers differ.
other : {A : Type 0} (k p j q : ℕ) → refusal k p ≡ refusal j q → ¬ (k ≡ j) → A
other k p j q e n = let i : k ≡ j = cc in absurd (n i)

-- Of lists of checks in order: the one that a refusal comes from, and those before it, which are clear.
from_one : (f : ℕ → List Check) (i m x k : ℕ) → first_of (concat (list_from f i m)) ≡ refusal x k
    → (j : ℕ) × (j < m) × (first_of (f (i + j)) ≡ refusal x k) × ((q : ℕ) → q < j → first_of (f (i + q)) ≡ clear)
unfolding concat list_from first_of then
from_one f i zero x k e = never x k e
from_one f i (suc m) x k e = go (first_of (f i)) refl (sym (first_append (f i) (concat (list_from f (suc i) m))) ∙ e) (from_one f (suc i) m x k)
  where
    here : i + 0 ≡ i
    here = omega arith

    go : (g : Finding) → first_of (f i) ≡ g → then g (first_of (concat (list_from f (suc i) m))) ≡ refusal x k
        → (first_of (concat (list_from f (suc i) m)) ≡ refusal x k → (j : ℕ) × (j < m) × (first_of (f (suc i + j)) ≡ refusal x k) × ((q : ℕ) → q < j → first_of (f (suc i + q)) ≡ clear))
        → (j : ℕ) × (j < suc m) × (first_of (f (i + j)) ≡ refusal x k) × ((q : ℕ) → q < j → first_of (f (i + q)) ≡ clear)
    go (refusal y l) d h later = (0, omega arith, rw here (d ∙ h), λ q l. absurd (omega arith))
    go clear d h later =
        let r = later h in
        let z : suc i + r.0 ≡ i + suc r.0 = omega arith in
        (suc r.0, omega (arith, r.1), rw z at r.2, before r.3)
      where
        before : {j : ℕ} → ((q : ℕ) → q < j → first_of (f (suc i + q)) ≡ clear) → (q : ℕ) → q < suc j → first_of (f (i + q)) ≡ clear
        before c zero l = rw here d
        before c (suc q) l = let z : suc i + q ≡ i + suc q = omega arith in rw z at (c q (omega arith))

-- Of lists of checks in order, of which list j refuses at the place j: where they refuse.
module _ (f : ℕ → List Check) (places : (j x k : ℕ) → first_of (f j) ≡ refusal x k → k ≡ j) (m : ℕ) where
  pub first_place : (x k : ℕ) → (first_of (concat (list_from f 0 m)) ≡ refusal x k)
      ↔ ((k < m) × (first_of (f k) ≡ refusal x k) × ((q : ℕ) → q < k → first_of (f q) ≡ clear))
  first_place x k = (
    (λ e.
        let r = from_one f 0 m x k e in
        let y : k ≡ 0 + r.0 = places (0 + r.0) x k r.2 in
        (omega (arith, r.1), ap (λ (i : ℕ). first_of (f i)) y ∙ r.2, λ q l. let w : 0 + q ≡ q = omega arith in rw w at (r.3 q (omega arith)))),
    (λ p.
        let z : 0 + k ≡ k = omega arith in
        first_of_all f 0 m k x k p.0 (λ q l. let w : 0 + q ≡ q = omega arith in rw w (p.2 q l)) (rw z p.1)),
  )

-- Checks one by one are lists of one check.
pub singles : (f : ℕ → Check) (i m : ℕ) → concat (list_from (λ j. f j ∷ []) i m) ≡ list_from f i m
unfolding concat list_from
singles f i zero = refl
singles f i (suc m) = ap (λ xs. f i ∷ xs) (singles f (suc i) m)

-- One check, with a test that decides P.
module _ (n k : ℕ) (b : Bool) {P : Type 0} (t : Tells b P) where
  pub single_clear : (first_of (check n k b ∷ []) ≡ clear) ↔ (¬ P)
  unfolding first_of
  single_clear = go b t
    where
      go : (b : Bool) → Tells b P → ((elim b as (λ _. Finding) [ true ↦ refusal n k | false ↦ clear ]) ≡ clear) ↔ (¬ P)
      go true t = ((λ e. never n k (sym e)), λ p. absurd (p (t.fact tt)))
      go false t = ((λ _ p. t.test p), λ _. refl)

  pub single_refused : (x j : ℕ) → first_of (check n k b ∷ []) ≡ refusal x j → (x ≡ n) × (j ≡ k) × P
  unfolding first_of
  single_refused x j = go b t
    where
      go : (b : Bool) → Tells b P → (elim b as (λ _. Finding) [ true ↦ refusal n k | false ↦ clear ]) ≡ refusal x j → (x ≡ n) × (j ≡ k) × P
      go true t e = let p : n ≡ x = cc in let q : k ≡ j = cc in (sym p, sym q, t.fact tt)
      go false t e = never x j e

  pub refused_single : P → first_of (check n k b ∷ []) ≡ refusal n k
  refused_single p = first_here (check n k b) [] (t.test p)

-- The two checks of a line, with tests that decide P and Q.
module _ (j : ℕ) (a b : Bool) {P Q : Type 0} (t : Tells a P) (u : Tells b Q) where
  abbrev LineChecks : List Check
  LineChecks = check 7 j (not a) ∷ check 8 j (not b) ∷ []

  abbrev LineFound : Bool → Bool → Finding
  LineFound a b = elim (not a) [ true ↦ refusal 7 j | false ↦ elim (not b) [ true ↦ refusal 8 j | false ↦ clear ] ]

  pub line_clear : (first_of LineChecks ≡ clear) ↔ (P × Q)
  unfolding first_of
  line_clear = go a b t u
    where
      go : (a b : Bool) → Tells a P → Tells b Q → (LineFound a b ≡ clear) ↔ (P × Q)
      go true true t u = ((λ _. (t.fact tt, u.fact tt)), λ _. refl)
      go true false t u = ((λ e. never 8 j (sym e)), λ p. absurd (u.test p.1))
      go false b t u = ((λ e. never 7 j (sym e)), λ p. absurd (t.test p.0))

  pub line_kind_is : (first_of LineChecks ≡ refusal 7 j) ↔ (¬ P)
  unfolding first_of
  line_kind_is = go a b t
    where
      go : (a b : Bool) → Tells a P → (LineFound a b ≡ refusal 7 j) ↔ (¬ P)
      go true true t = ((λ e. never 7 j e), λ p. absurd (p (t.fact tt)))
      go true false t = ((λ e. other 8 j 7 j e (λ z. omega arith)), λ p. absurd (p (t.fact tt)))
      go false b t = ((λ _ p. t.test p), λ _. refl)

  pub line_code : (first_of LineChecks ≡ refusal 8 j) ↔ (P × (¬ Q))
  unfolding first_of
  line_code = go a b t u
    where
      go : (a b : Bool) → Tells a P → Tells b Q → (LineFound a b ≡ refusal 8 j) ↔ (P × (¬ Q))
      go true true t u = ((λ e. never 8 j e), λ p. absurd (p.1 (u.fact tt)))
      go true false t u = ((λ _. (t.fact tt, λ q. u.test q)), λ _. refl)
      go false b t u = ((λ e. other 7 j 8 j e (λ z. omega arith)), λ p. absurd (t.test p.0))

  pub line_place : (x k : ℕ) → first_of LineChecks ≡ refusal x k → k ≡ j
  unfolding first_of
  line_place x k = go a b
    where
      go : (a b : Bool) → LineFound a b ≡ refusal x k → k ≡ j
      go true true e = never x k e
      go true false e = let z : j ≡ k = cc in sym z
      go false b e = let z : j ≡ k = cc in sym z
