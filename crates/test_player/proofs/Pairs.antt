-- Laws of a pair looked at in a sense: what is looked at first, its challenges, and what it comes to with a budget. In the plain sense it is the model's `examine`.
use mathlib.Core.Bool.{Bool, true, false}
use mathlib.Core.List.{List}
use mathlib.Core.Path.{◌≡◌, refl, sym, ap, ◌∙◌}
use Prim.Native.Nat.{ℕ, zero, suc, ◌-◌, ◌<◌}
use native.Mathlib.Omega.{arith}
use Rattle.model.specs.Field.{Field}
use Rattle.model.specs.Card.{Line, Card}
use Rattle.model.specs.Sense.{Sense, plain}
use Rattle.model.specs.Walk.{Seen, more, try_challenges, examine}
use Rattle.theory.specs.Counted.{holds, fails, spent, cut}
use Rattle.theory.proofs.Counted.{over, under, cut_more, follow, then_holds, one_more}
use Rattle.test_player.specs.Played.{challenger, shares_total, if_shared, both_sides, examine_in, leaves_in}

-- In the plain sense the pairs looked at are the model's.
pub examine_plain : (c : Card) (r : ℕ) → examine_in plain c r ≡ examine c.lines r
unfolding examine_in examine
examine_plain c zero = refl
examine_plain c (suc r) = ap (λ (see : Field → Field → Seen). λ (a b : Field). both_sides see c.lines a b) (examine_plain c r)

-- A pair at a round or more: itself, the challenges of the first side, and then those of the second.
module _ (see : Field → Field → Seen) (xs : List Line) (a b : Field) where
  abbrev first_side : Seen
  first_side = try_challenges see xs a b xs

  abbrev second_side : Seen
  second_side = try_challenges (λ x y. see y x) xs b a xs

  abbrev sides : Seen
  sides = elim first_side.holds as (λ _. Seen) [ true ↦ more first_side.count second_side | false ↦ first_side ]

  -- "A pair examined at r rounds counts 1."
  counts_one : both_sides see xs a b ≡ more 1 sides
  counts_one = one_more first_side second_side

  sides_some : 0 < (both_sides see xs a b).count
  sides_some = rw counts_one (omega arith)

  sides_next : (v : ℕ) → ¬ (v ≡ 0) → cut v (both_sides see xs a b) ≡ follow true (cut (v - 1) first_side) second_side
  sides_next v n = ap (cut v) counts_one ∙ cut_more v 1 sides (omega arith) ∙ then_holds (v - 1) second_side first_side

-- A pair in a sense, by what is looked at first.
module _ (m : Sense) (c : Card) (a b : Field) where
  examine_uneven : shares_total m c a b ≡ false → (r : ℕ) → examine_in m c r a b ≡ record { holds = false; count = 1 }
  unfolding examine_in
  examine_uneven e zero = ap (λ (h : Bool). if_shared h (record { holds = true; count = 1 })) e
  examine_uneven e (suc r) = ap (λ (h : Bool). if_shared h (both_sides (examine_in m c r) c.lines a b)) e

  examine_start : shares_total m c a b ≡ true → examine_in m c 0 a b ≡ record { holds = true; count = 1 }
  unfolding examine_in
  examine_start e = ap (λ (h : Bool). if_shared h (record { holds = true; count = 1 })) e

  examine_sides : shares_total m c a b ≡ true → (r : ℕ) → examine_in m c (suc r) a b ≡ both_sides (examine_in m c r) c.lines a b
  unfolding examine_in
  examine_sides e r = ap (λ (h : Bool). if_shared h (both_sides (examine_in m c r) c.lines a b)) e

  examines_some : (h : Bool) → shares_total m c a b ≡ h → (r : ℕ) → 0 < (examine_in m c r a b).count
  examines_some false e r = rw (examine_uneven e r) (omega arith)
  examines_some true e zero = rw (examine_start e) (omega arith)
  examines_some true e (suc r) = rw (examine_sides e r) (sides_some (examine_in m c r) c.lines a b)

  -- With a budget of v, at r rounds.
  module _ (v r : ℕ) where
    pub pair_spent : v ≡ 0 → spent ≡ cut v (examine_in m c r a b)
    pair_spent e = sym (over v (examine_in m c r a b) (omega (arith, examines_some (shares_total m c a b) refl r)))

    -- "a challenger also wins as soon as the totals differ"
    pub pair_uneven : ¬ (v ≡ 0) → {h : Bool} → h ≡ shares_total m c a b → h ≡ false → fails (v - 1) ≡ cut v (examine_in m c r a b)
    pair_uneven n d e = sym (ap (cut v) (examine_uneven (sym d ∙ e) r) ∙ under v (record { holds = false; count = 1 }) (omega arith))

    -- "At 0 rounds it holds."
    pub pair_zero : ¬ (v ≡ 0) → {h : Bool} → h ≡ shares_total m c a b → h ≡ true → r ≡ 0 → holds (v - 1) ≡ cut v (examine_in m c r a b)
    pair_zero n d e z = sym (ap (λ (q : ℕ). cut v (examine_in m c q a b)) z ∙ ap (cut v) (examine_start (sym d ∙ e)) ∙ under v (record { holds = true; count = 1 }) (omega arith))

    -- Otherwise the challenges of the first side are tried, and then those of the second.
    pub pair_next : ¬ (v ≡ 0) → {h : Bool} → h ≡ shares_total m c a b → h ≡ true → ¬ (r ≡ 0)
        → cut v (examine_in m c r a b) ≡ follow true (cut (v - 1) (try_challenges (leaves_in m (challenger false) c (r - 1)) c.lines a b c.lines)) (try_challenges (leaves_in m (challenger true) c (r - 1)) c.lines b a c.lines)
    unfolding leaves_in
    pair_next n d e z =
        let f : r ≡ suc (r - 1) = omega arith in
        ap (λ (q : ℕ). cut v (examine_in m c q a b)) f
        ∙ ap (cut v) (examine_sides (sym d ∙ e) (r - 1))
        ∙ sides_next (examine_in m c (r - 1)) c.lines a b v n
