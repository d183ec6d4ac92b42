-- Marks that are added in turns: in each turn, which has a number, the kinds that Q holds of at that number.
use mathlib.Core.Bool.{Bool, true, false}
use mathlib.Core.List.{List}
use mathlib.Core.Logic.{◌⊎◌, inl, inr, ⊎_elim}
use mathlib.Core.Path.{◌≡◌, refl, sym, ◌∙◌}
use Prim.Native.Nat.{ℕ, ◌+◌, ◌≤◌, ◌<◌}
use native.Mathlib.Decide.{ℕ_discrete, dec_lt}
use native.Mathlib.Omega.{arith}
use lib.ListN.{length, set, length-set, get_or-eq_default}
use lib.Seq.{get_or-set_same, get_or-set_other}
use Rattle.model.specs.Field.{at}
use Rattle.reach.specs.Marks.{Marked, Adds}

-- Q holds of kind k at some number below n.
abbrev pub Some : (ℕ → ℕ → Type 0) → ℕ → ℕ → Type 0
Some Q n k = (i : ℕ) × (i < n) × Q i k

-- The turns below n are over.
pub record Added (Q : ℕ → ℕ → Type 0) (n : ℕ) (old new : List Bool) : Type 0 where
  pub long : length new ≡ length old
  pub adds : Adds (Some Q n) old new

-- Before the first turn.
pub added_none : {Q : ℕ → ℕ → Type 0} {marks : List Bool} → Added Q 0 marks marks
added_none = record { long = refl; adds = record { kept = λ k m. m; added = λ k w. absurd (omega (arith, w.1)); only = λ k m. inl m } }

module _ {Q : ℕ → ℕ → Type 0} {n : ℕ} {old marks : List Bool} (h : Added Q n old marks) where
  -- One more turn.
  pub added_more : {new : List Bool} → length new ≡ length marks → Adds (Q n) marks new → Added Q (n + 1) old new
  added_more {new} l a =
      record {
        long = l ∙ h.long;
        adds = record {
          kept = λ k m. a.kept k (h.adds.kept k m);
          added = λ k w. turn k w (ℕ_discrete w.0 n);
          only = λ k m. ⊎_elim (λ o. before k (h.adds.only k o)) (λ q. inr (n, omega arith, q)) (a.only k m);
        };
      }
    where
      turn : (k : ℕ) (w : Some Q (n + 1) k) → Dec (w.0 ≡ n) → Marked new k
      turn k w (yes e) = a.added k (rw e at w.2)
      turn k w (no d) = a.kept k (h.adds.added k (w.0, omega (arith, w.1), w.2))

      before : (k : ℕ) → Marked old k ⊎ Some Q n k → Marked old k ⊎ Some Q (n + 1) k
      before k (inl m) = inl m
      before k (inr w) = inr (w.0, omega (arith, w.1), w.2)

  -- One more turn, in which Q holds of no kind.
  pub added_skip : ((k : ℕ) → ¬ Q n k) → Added Q (n + 1) old marks
  added_skip f = added_more refl (record { kept = λ k m. m; added = λ k q. absurd (f k q); only = λ k m. inl m })

-- Where X holds, it may be said besides.
pub adds_where : {X : Type 0} {P : ℕ → Type 0} {old new : List Bool} → X → Adds P old new → Adds (λ k. X × P k) old new
adds_where x a = record { kept = a.kept; added = λ k w. a.added k w.1; only = λ k m. ⊎_elim (λ o. inl o) (λ p. inr (x, p)) (a.only k m) }

-- One kind is marked.
pub adds_kind : {marks : List Bool} {i : ℕ} → i < length marks → Adds (λ k. k ≡ i) marks (set marks i true)
adds_kind {marks} {i} h =
    record { kept = λ k m. kept k m (ℕ_discrete k i); added = λ k e. rw e (get_or-set_same marks i true false h); only = λ k m. only k m (ℕ_discrete k i) }
  where
    kept : (k : ℕ) → Marked marks k → Dec (k ≡ i) → Marked (set marks i true) k
    kept k m (yes e) = rw e (get_or-set_same marks i true false h)
    kept k m (no d) = get_or-set_other marks i k true false d ∙ m

    only : (k : ℕ) → Marked (set marks i true) k → Dec (k ≡ i) → Marked marks k ⊎ (k ≡ i)
    only k m (yes e) = inr e
    only k m (no d) = inl (sym (get_or-set_other marks i k true false d) ∙ m)

-- Kind by kind: in turn i kind i is marked where there are tokens of it.
module _ (counts : List ℕ) where
  abbrev pub Counted : ℕ → ℕ → Type 0
  Counted i k = (0 < at counts i) × (k ≡ i)

  pub counted_more : {i : ℕ} {old marks : List Bool} → Added Counted i old marks → i < length marks → 0 < at counts i → Added Counted (i + 1) old (set marks i true)
  counted_more {i} {marks = marks} h l p = added_more h (length-set marks i true) (adds_where p (adds_kind l))

  pub counted_skip : {i : ℕ} {old marks : List Bool} → Added Counted i old marks → at counts i ≤ 0 → Added Counted (i + 1) old marks
  counted_skip h p = added_skip h (λ k q. omega (arith, q.0))

  pub counted_all : {i : ℕ} {old marks : List Bool} → Added Counted i old marks → length counts ≤ i → Adds (λ k. 0 < at counts k) old marks
  counted_all {i} h l =
      record {
        kept = h.adds.kept;
        added = λ k p. h.adds.added k (k, below k p (dec_lt k i), (p, refl));
        only = λ k m. ⊎_elim (λ o. inl o) (λ w. inr (rw w.2.1 w.2.0)) (h.adds.only k m);
      }
    where
      below : (k : ℕ) → 0 < at counts k → Dec (k < i) → k < i
      below k p (yes q) = q
      below k p (no d) = let past : length counts ≤ k = omega arith in absurd (omega (arith, get_or-eq_default counts 0 past))
