-- Laws of the walk itself: the numbers of rounds tried one after another, within an allowance.
use mathlib.Core.Bool.{Bool, true, false}
use mathlib.Core.List.{List}
use mathlib.Core.Path.{◌≡◌, refl, sym, ap, ◌∙◌}
use Prim.Native.Nat.{ℕ, suc, ◌+◌, ◌-◌, ◌≤◌, ◌<◌}
use native.Mathlib.Decide.{dec_lt}
use native.Mathlib.Omega.{arith}
use borrow.Author.Tests.{lt-ltb, le-ltb}
use Rattle.model.specs.Field.{Field}
use Rattle.model.specs.Card.{Line}
use Rattle.model.specs.Walk.{examine, WalkAnswer, apart, together, spent, Walk, walk_on, walk}
use Rattle.model.specs.Answer.{given, within}
use Rattle.theory.specs.Counted as counted
use Rattle.theory.specs.Counted.{outcome, cut}
use Rattle.theory.proofs.Counted.{when_spent, when_known}
use Rattle.theory.proofs.Walks.{walk_parts, walk_holds}
use Rattle.walker.specs.Answers.{Plays}
use Rattle.walker.specs.declared.entry.Played.{Played}

pub spends : (allowance : ℕ) (w : Walk) → allowance < w.count → within allowance w ≡ record { found = spent; count = allowance }
unfolding within
spends allowance w h = rw (lt-ltb allowance w.count h, within) refl

finds : (allowance : ℕ) (w : Walk) → w.count ≤ allowance → within allowance w ≡ w
unfolding within
finds allowance w h = rw (le-ltb allowance w.count h, within) refl

-- What was played, by what the walk comes to.
pub plays_of : {found : WalkAnswer} {count : ℕ} {w : Walk} → record { found = found; count = count } ≡ w → (given found ≡ given w.found) × (count ≡ w.count)
plays_of e = (ap (λ (x : Walk). given x.found) e, ap (λ (x : Walk). x.count) e)

pub plays_as : (r : Played) {w u : Walk} → Plays r w → w ≡ u → Plays r u
plays_as r plays e = let p = plays_of e in (plays.0 ∙ p.0, plays.1 ∙ p.1)

-- No more is drawn than is left.
pub plays_most : (r : Played) (allowance : ℕ) (w : Walk) → Plays r (within allowance w) → r.drawn ≤ allowance
plays_most r allowance w plays = go (dec_lt allowance w.count)
  where
    go : Dec (allowance < w.count) → r.drawn ≤ allowance
    go (yes h) = omega (arith, plays.1, ap (λ (x : Walk). x.count) (spends allowance w h))
    go (no h) = omega (arith, plays.1, ap (λ (x : Walk). x.count) (finds allowance w (omega arith)))

module _ (xs : List Line) (a b : Field) where
  walk_counts : (r n : ℕ) → (examine xs r a b).count ≤ (walk xs a b r (suc n)).count
  walk_counts r n = go (examine xs r a b).holds refl
    where
      go : (h : Bool) → (examine xs r a b).holds ≡ h → (examine xs r a b).count ≤ (walk xs a b r (suc n)).count
      go true e = rw (walk_holds xs a b r n e) (omega arith)
      go false e = rw (walk_parts xs a b r n e) (omega arith)

  -- What the walk comes to where `left` is left of the allowance and `many` numbers of rounds from r up are still to be tried.
  abbrev pub walk_from : ℕ → ℕ → ℕ → ℕ → Walk
  walk_from allowance left r many = within allowance (walk_on (allowance - left) (walk xs a b r many))

  module _ (allowance left r many : ℕ) (fits : left ≤ allowance) where
    none_left : many ≡ 0 → record { found = together; count = allowance - left } ≡ walk_from allowance left r many
    unfolding walk
    none_left e =
        let d : allowance - left + 0 ≡ allowance - left = omega arith in
        rw e (sym (finds allowance (walk_on (allowance - left) (walk xs a b r 0)) (omega arith) ∙ rw d refl))

    -- What a pair leaves of the allowance.
    pub tries_within : (h : Bool) (u : ℕ) → cut left (examine xs r a b) ≡ outcome h u → u ≤ allowance
    tries_within h u e = omega (arith, (when_known left (examine xs r a b) h u e).2)

    -- The rounds r are tried.
    module _ (n : ℕ) (some : many ≡ suc n) where
      tries_spent : cut left (examine xs r a b) ≡ counted.spent → record { found = spent; count = allowance } ≡ walk_from allowance left r many
      tries_spent e =
          let l : left < (examine xs r a b).count = when_spent left (examine xs r a b) e in
          rw some (sym (spends allowance (walk_on (allowance - left) (walk xs a b r (suc n))) (omega (arith, walk_counts r n))))

      tries_apart : (u : ℕ) → cut left (examine xs r a b) ≡ counted.fails u → record { found = apart r; count = allowance - u } ≡ walk_from allowance left r many
      tries_apart u e =
          let t = when_known left (examine xs r a b) false u e in
          let d : allowance - u ≡ allowance - left + (examine xs r a b).count = omega (arith, t.1, t.2) in
          ap (λ (n : ℕ). record { found = apart r; count = n }) d
          ∙ sym (finds allowance (walk_on (allowance - left) (record { found = apart r; count = (examine xs r a b).count })) (omega (arith, t.1)))
          ∙ ap (λ (w : Walk). within allowance (walk_on (allowance - left) w)) (sym (walk_parts xs a b r n t.0))
          ∙ ap (λ (m : ℕ). walk_from allowance left r m) (sym some)

      tries_on : (u : ℕ) → cut left (examine xs r a b) ≡ counted.holds u → walk_from allowance u (r + 1) n ≡ walk_from allowance left r many
      tries_on u e =
          let t = when_known left (examine xs r a b) true u e in
          let q : r + 1 ≡ suc r = omega arith in
          let d : allowance - u + (walk xs a b (suc r) n).count ≡ allowance - left + ((examine xs r a b).count + (walk xs a b (suc r) n).count) = omega (arith, t.1, t.2) in
          ap (λ (m : ℕ). walk_from allowance u m n) q
          ∙ ap (λ (k : ℕ). within allowance (record { found = (walk xs a b (suc r) n).found; count = k })) d
          ∙ ap (λ (w : Walk). within allowance (walk_on (allowance - left) w)) (sym (walk_holds xs a b r n t.0))
          ∙ ap (λ (m : ℕ). walk_from allowance left r m) (sym some)

  -- Nothing is drawn yet.
  pub starts : (allowance r many : ℕ) → walk_from allowance allowance r many ≡ within allowance (walk xs a b r many)
  starts allowance r many =
      let d : allowance - allowance + (walk xs a b r many).count ≡ (walk xs a b r many).count = omega arith in
      ap (λ (k : ℕ). within allowance (record { found = (walk xs a b r many).found; count = k })) d

  -- What the loop keeps: what is drawn so far and what the rounds still to be tried come to is what the walk comes to.
  abbrev pub Trying : (allowance limit left r : ℕ) → Type 0
  Trying allowance limit left r = (left ≤ allowance) × (walk_from allowance left r (limit + 1 - r) ≡ within allowance (walk xs a b 1 limit))

  module _ (allowance limit left r : ℕ) (trying : Trying allowance limit left r) where
    -- The rounds are tried up to the limit.
    pub tried_all : limit < r → record { found = together; count = allowance - left } ≡ within allowance (walk xs a b 1 limit)
    tried_all h = none_left allowance left r (limit + 1 - r) trying.0 (omega arith) ∙ trying.1

    -- The rounds r are tried next.
    module _ (next : r ≤ limit) where
      some : limit + 1 - r ≡ suc (limit - r)
      some = omega arith

      pub tried_spent : cut left (examine xs r a b) ≡ counted.spent → record { found = spent; count = allowance } ≡ within allowance (walk xs a b 1 limit)
      tried_spent e = tries_spent allowance left r (limit + 1 - r) trying.0 (limit - r) some e ∙ trying.1

      pub tried_apart : (u : ℕ) → cut left (examine xs r a b) ≡ counted.fails u → record { found = apart r; count = allowance - u } ≡ within allowance (walk xs a b 1 limit)
      tried_apart u e = tries_apart allowance left r (limit + 1 - r) trying.0 (limit - r) some u e ∙ trying.1

      pub tried_on : (u : ℕ) → cut left (examine xs r a b) ≡ counted.holds u → Trying allowance limit u (r + 1)
      tried_on u e =
          let z : limit + 1 - (r + 1) ≡ limit - r = omega arith in (
            tries_within allowance left r (limit + 1 - r) trying.0 true u e,
            ap (walk_from allowance u (r + 1)) z ∙ tries_on allowance left r (limit + 1 - r) trying.0 (limit - r) some u e ∙ trying.1,
          )
