-- Laws of a count that an allowance may end: one part after another, and a pair that is examined.
use mathlib.Core.Bool.{Bool, true, false}
use mathlib.Core.List.{List}
use mathlib.Core.Path.{◌≡◌, refl, sym, ap, ◌∙◌}
use Prim.Native.Nat.{ℕ, zero, suc, ◌+◌, ◌-◌, ◌≤◌, ◌<◌}
use native.Mathlib.Decide.{dec_lt}
use native.Mathlib.Omega.{arith}
use borrow.Author.Tests.{lt-ltb, le-ltb}
use Rattle.model.specs.Field.{Field}
use Rattle.model.specs.Card.{Line}
use Rattle.model.specs.Walk.{Seen, more, try_challenges, examine}
use Rattle.theory.specs.Game.{first, second}
use Rattle.theory.specs.Counted.{Counted, holds, fails, spent, outcome, cut, leaves}

-- The outcomes differ, and none of them is spent.
outcome_only : (g h : Bool) (m n : ℕ) → outcome g m ≡ outcome h n → (g ≡ h) × (n ≡ m)
outcome_only true true m n e = (refl, cc)
outcome_only false false m n e = (refl, cc)
outcome_only true false m n e = let z : ◌≡◌ {A = ℕ} 0 1 = cc in absurd (omega arith)
outcome_only false true m n e = let z : ◌≡◌ {A = ℕ} 0 1 = cc in absurd (omega arith)

outcome_unspent : (h : Bool) (n : ℕ) → ¬ (outcome h n ≡ spent)
outcome_unspent true n e = let z : ◌≡◌ {A = ℕ} 0 1 = cc in omega arith
outcome_unspent false n e = let z : ◌≡◌ {A = ℕ} 0 1 = cc in omega arith

module _ (v : ℕ) (p : Seen) where
  pub over : v < p.count → cut v p ≡ spent
  unfolding cut
  over l = rw (lt-ltb v p.count l, cut)

  pub under : p.count ≤ v → cut v p ≡ outcome p.holds (v - p.count)
  unfolding cut
  under l = rw (le-ltb v p.count l, cut)

  -- What the count is where it is cut, and where it is not.
  pub when_spent : cut v p ≡ spent → v < p.count
  when_spent e = go (dec_lt v p.count)
    where
      go : Dec (v < p.count) → v < p.count
      go (yes l) = l
      go (no l) = absurd (outcome_unspent p.holds (v - p.count) (sym (under (omega arith)) ∙ e))

  pub when_known : (h : Bool) (u : ℕ) → cut v p ≡ outcome h u → (p.holds ≡ h) × (p.count ≤ v) × (u ≡ v - p.count)
  when_known h u e = go (dec_lt v p.count)
    where
      go : Dec (v < p.count) → (p.holds ≡ h) × (p.count ≤ v) × (u ≡ v - p.count)
      go (yes l) = absurd (outcome_unspent h u (sym e ∙ over l))
      go (no l) = let t = outcome_only p.holds h (v - p.count) u (sym (under (omega arith)) ∙ e) in (t.0, omega arith, t.1)

-- Nothing is examined.
pub cut_none : (v : ℕ) (h : Bool) → cut v (record { holds = h; count = 0 }) ≡ outcome h v
cut_none v h = let z : v - 0 ≡ v = omega arith in under v (record { holds = h; count = 0 }) (omega arith) ∙ ap (outcome h) z

-- A count with so many pairs examined before it.
pub cut_more : (v n : ℕ) (q : Seen) → n ≤ v → cut v (more n q) ≡ cut (v - n) q
cut_more v n q h = go (dec_lt (v - n) q.count)
  where
    go : Dec (v - n < q.count) → cut v (more n q) ≡ cut (v - n) q
    go (yes l) = over v (more n q) (omega arith) ∙ sym (over (v - n) q l)
    go (no l) =
        let e : v - (n + q.count) ≡ v - n - q.count = omega arith in
        under v (more n q) (omega arith) ∙ ap (outcome q.holds) e ∙ sym (under (v - n) q (omega arith))

-- One part after another: the second follows where the first holds (or where it fails), and else the first stands.
abbrev pub follow : Bool → Counted → Seen → Counted
follow true (holds left) q = cut left q
follow true (fails left) q = fails left
follow true spent q = spent
follow false (holds left) q = holds left
follow false (fails left) q = cut left q
follow false spent q = spent

-- One part after another, where what the first comes to is known.
pub followed : (h : Bool) {whole part known : Counted} (q : Seen) → whole ≡ follow h part q → known ≡ part → follow h known q ≡ whole
followed h q e d = ap (λ (x : Counted). follow h x q) d ∙ sym e

-- Nothing follows, or nothing goes before.
pub follow_none : (h : Bool) (e : Counted) → follow h e (record { holds = h; count = 0 }) ≡ e
follow_none true (holds left) = cut_none left true
follow_none true (fails left) = refl
follow_none true spent = refl
follow_none false (holds left) = refl
follow_none false (fails left) = cut_none left false
follow_none false spent = refl

pub none_followed : (h : Bool) (v : ℕ) (q : Seen) → follow h (outcome h v) q ≡ cut v q
none_followed true v q = refl
none_followed false v q = refl

module _ (v : ℕ) (q : Seen) where
  pub then_holds : (p : Seen) → cut v (elim p.holds as (λ _. Seen) [ true ↦ more p.count q | false ↦ p ]) ≡ follow true (cut v p) q
  then_holds p = go p.holds refl (dec_lt v p.count)
    where
      go : (h : Bool) → p.holds ≡ h → Dec (v < p.count) → cut v (elim h as (λ _. Seen) [ true ↦ more p.count q | false ↦ p ]) ≡ follow true (cut v p) q
      go true e (yes l) = over v (more p.count q) (omega arith) ∙ rw (over v p l) refl
      go true e (no l) = rw (under v p (omega arith), e) (cut_more v p.count q (omega arith))
      go false e (yes l) = rw (over v p l) refl
      go false e (no l) = rw (under v p (omega arith), e) refl

  pub then_fails : (p : Seen) → cut v (elim p.holds as (λ _. Seen) [ true ↦ p | false ↦ more p.count q ]) ≡ follow false (cut v p) q
  then_fails p = go p.holds refl (dec_lt v p.count)
    where
      go : (h : Bool) → p.holds ≡ h → Dec (v < p.count) → cut v (elim h as (λ _. Seen) [ true ↦ p | false ↦ more p.count q ]) ≡ follow false (cut v p) q
      go false e (yes l) = over v (more p.count q) (omega arith) ∙ rw (over v p l) refl
      go false e (no l) = rw (under v p (omega arith), e) (cut_more v p.count q (omega arith))
      go true e (yes l) = rw (over v p l) refl
      go true e (no l) = rw (under v p (omega arith), e) refl

-- One pair more, before a part that another follows where it holds.
pub one_more : (p q : Seen) → (elim p.holds as (λ _. Seen) [ true ↦ more (suc p.count) q | false ↦ more 1 p ]) ≡ more 1 (elim p.holds as (λ _. Seen) [ true ↦ more p.count q | false ↦ p ])
one_more p q = go p.holds
  where
    go : (h : Bool) → (elim h as (λ _. Seen) [ true ↦ more (suc p.count) q | false ↦ more 1 p ]) ≡ more 1 (elim h as (λ _. Seen) [ true ↦ more p.count q | false ↦ p ])
    go true = let e : suc p.count + q.count ≡ 1 + (p.count + q.count) = omega arith in ap (λ (n : ℕ). record { holds = q.holds; count = n }) e
    go false = refl

-- A pair that is examined: itself counted, then the first side's challenges, then the second's.
module _ (xs : List Line) (a b : Field) where
  -- The challenges of a side, where r rounds are left after the one that they begin.
  abbrev first_side : ℕ → Seen
  first_side r = try_challenges (leaves first xs r) xs a b xs

  abbrev second_side : ℕ → Seen
  second_side r = try_challenges (leaves second xs r) xs b a xs

  sides : ℕ → Seen
  sides r = elim (first_side r).holds as (λ _. Seen) [ true ↦ more (first_side r).count (second_side r) | false ↦ first_side r ]

  -- "A pair examined at r rounds counts 1."
  counts_one : (r : ℕ) → examine xs (suc r) a b ≡ more 1 (sides r)
  unfolding examine sides leaves
  counts_one r = one_more (try_challenges (examine xs r) xs a b xs) (try_challenges (λ x y. examine xs r y x) xs b a xs)

  pub examines_some : (r : ℕ) → 0 < (examine xs r a b).count
  unfolding examine
  examines_some zero = omega arith
  examines_some (suc r) = rw (counts_one r) (omega arith)

  module _ (v : ℕ) where
    pub pair_spent : (r : ℕ) → v ≡ 0 → spent ≡ cut v (examine xs r a b)
    pair_spent r e = sym (over v (examine xs r a b) (omega (arith, examines_some r)))

    -- "At 0 rounds it holds."
    pub pair_zero : (r : ℕ) → ¬ (v ≡ 0) → r ≡ 0 → holds (v - 1) ≡ cut v (examine xs r a b)
    unfolding examine
    pair_zero r n e = rw e (sym (under v (record { holds = true; count = 1 }) (omega arith)))

    pub pair_next : (r : ℕ) → ¬ (v ≡ 0) → ¬ (r ≡ 0) → cut v (examine xs r a b) ≡ follow true (cut (v - 1) (first_side (r - 1))) (second_side (r - 1))
    unfolding sides
    pair_next r n m =
        let e : r ≡ suc (r - 1) = omega arith in
        ap (λ (q : ℕ). cut v (examine xs q a b)) e
        ∙ ap (cut v) (counts_one (r - 1))
        ∙ cut_more v 1 (sides (r - 1)) (omega arith)
        ∙ then_holds (v - 1) (second_side (r - 1)) (first_side (r - 1))
