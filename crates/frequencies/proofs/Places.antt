-- The counts of the places, from how many fields there are and how many of them each stage relates.
use mathlib.Core.List.{List}
use mathlib.Core.Path.{◌≡◌, refl, ◌∙◌}
use Prim.Native.Nat.{ℕ, zero, suc, ◌+◌, ◌-◌, ◌≤◌, ◌<◌}
use native.Mathlib.Decide.{ℕ_discrete}
use native.Mathlib.Omega.{arith}
use lib.ListN.{length, take, set, length-set}
use lib.Seq.{get_or-set_same, get_or-set_other}
use Rattle.model.specs.Finite.{list_from}
use Rattle.model.specs.Field.{at}
use Rattle.model.specs.Limits.{most_kinds}
use Rattle.theory.proofs.Lists.{from_same}
use Rattle.theory.proofs.Writing.{first_counts}
use Rattle.frequencies.specs.Related.{related_before, placed}

-- Each stage relates no more than the one before it, and so no more than all.
module _ (all : ℕ) (related : List ℕ) (last : ℕ) (falls : (q : ℕ) → q ≤ last → at related q ≤ related_before all related q) where
  pub related_most : (q : ℕ) → q ≤ last → at related q ≤ all
  unfolding related_before
  related_most zero h = falls 0 h
  related_most (suc q) h = omega (arith, falls (suc q) h, related_most q (omega arith))

  pub before_most : (q : ℕ) → q ≤ last → related_before all related q ≤ all
  unfolding related_before
  before_most zero h = omega arith
  before_most (suc q) h = related_most q (omega arith)

-- The counts of the places up to a stage are set.
pub record PlacedTo (all : ℕ) (related : List ℕ) (last : ℕ) (counts : List ℕ) (before stage : ℕ) : Type 0 where
  pub within : stage ≤ last + 1
  pub long : length counts ≡ 34
  pub before_is : before ≡ related_before all related stage
  pub each : (p : ℕ) → p ≤ stage → at counts p ≡ placed all related last p

module _ {all : ℕ} {related : List ℕ} {last : ℕ} where
  pub placed_none : (counts : List ℕ) {v : ℕ} → length counts ≡ 34 → v ≡ at related last → PlacedTo all related last (set counts 0 v) all 0
  unfolding related_before placed
  placed_none counts {v} l e = record {
    within = omega arith;
    long = length-set counts 0 v ∙ l;
    before_is = refl;
    each = λ p h. let z : p ≡ 0 = omega arith in rw z (get_or-set_same counts 0 v 0 (omega arith) ∙ e);
  }

  module _ {counts : List ℕ} {before stage : ℕ} (P : PlacedTo all related last counts before stage) where
    pub placed_more : stage ≤ last → last ≤ most_kinds → {v : ℕ} → v ≡ before - at related stage → PlacedTo all related last (set counts (stage + 1) v) (at related stage) (stage + 1)
    unfolding related_before placed
    placed_more h few {v} e = record {
      within = omega arith;
      long = length-set counts (stage + 1) v ∙ P.long;
      before_is = let z : stage + 1 ≡ suc stage = omega arith in rw z refl;
      each = λ p l. go p l (ℕ_discrete p (stage + 1));
    }
      where
        go : (p : ℕ) → p ≤ stage + 1 → Dec (p ≡ stage + 1) → at (set counts (stage + 1) v) p ≡ placed all related last p
        go p l (yes z) =
            let y : p ≡ suc stage = omega arith in
            rw z (get_or-set_same counts (stage + 1) v 0 (omega (arith, P.long))) ∙ e ∙ rw (y, ← P.before_is) refl
        go p l (no z) = get_or-set_other counts (stage + 1) p v 0 z ∙ P.each p (omega arith)

    pub placed_all : last < stage → last ≤ most_kinds → take (last + 2) counts ≡ list_from (placed all related last) 0 (last + 2)
    placed_all h few = first_counts counts (last + 2) (omega (arith, P.long)) ∙ from_same (at counts) (placed all related last) 0 (last + 2) (λ p _ l. P.each p (omega arith))
