-- What the answers say of the game.
use mathlib.Core.Bool.{Bool, true, false}
use mathlib.Core.List.{List}
use mathlib.Core.Logic.{◌⊎◌, inl, inr}
use mathlib.Core.Path.{◌≡◌, refl, sym, ap, ◌∙◌}
use Prim.Native.Nat.{ℕ, zero, suc, ◌+◌, ◌-◌, ◌≤◌, ◌<◌}
use native.Mathlib.Decide.{dec_lt}
use native.Mathlib.Omega.{arith}
use Rattle.model.specs.Field.{Field}
use Rattle.model.specs.Card.{Card}
use Rattle.model.specs.Sense.{Sense, plain}
use Rattle.model.specs.Sheet.{kind_count, field_count, card_of, field_of}
use Rattle.model.specs.Walk.{Seen}
use Rattle.theory.specs.Game.{Holds}
use Rattle.theory.specs.FinerGame.{HoldsIn}
use Rattle.theory.proofs.Exec.{Tells}
use Rattle.theory.proofs.Counted.{over, under}
use Rattle.test_player.specs.declared.game.Tried.{Tried}
use Rattle.test_player.specs.declared.game.Tried.TheVariants.{Parted, Held, OutOfBudget, OutOfBounds}
use Rattle.test_player.specs.Played.{most_kinds_played, most_rounds_played, shares_total, examine_in, tried, parting_of}
use Rattle.test_player.specs.Meaning.{pairs_in, Unread, HoldsAt, Means}
use Rattle.test_player.proofs.Rounds.{tried_none, tried_bound, tried_one, kinds_bound, first_bound, second_bound, fields_parted, fields_tried}
use Rattle.test_player.proofs.Senses.{tells_in, tells_start, holds_less}

module _ (m : Sense) (c : Card) (a b : Field) where
  -- The pairs of the first of some numbers of rounds, where it parts the pair and where it does not.
  pairs_part : (r many : ℕ) → (examine_in m c r a b).holds ≡ false → pairs_in m c a b r (suc many) ≡ (examine_in m c r a b).count
  unfolding pairs_in
  pairs_part r many e = rw (e, pairs_in) refl

  pairs_more : (r many : ℕ) → (examine_in m c r a b).holds ≡ true → pairs_in m c a b r (suc many) ≡ (examine_in m c r a b).count + pairs_in m c a b (suc r) many
  unfolding pairs_in
  pairs_more r many e = rw (e, pairs_in) refl

  -- Those of one number of rounds alone.
  pairs_alone : (r : ℕ) → pairs_in m c a b r (suc zero) ≡ (examine_in m c r a b).count
  unfolding pairs_in
  pairs_alone r = go (examine_in m c r a b).holds refl
    where
      go : (h : Bool) → (examine_in m c r a b).holds ≡ h → pairs_in m c a b r (suc zero) ≡ (examine_in m c r a b).count
      go true e = rw (pairs_more r zero e) (omega arith)
      go false e = pairs_part r zero e

  abbrev HoldsTo : ℕ → Type 0
  HoldsTo r = (q : ℕ) → q ≤ r → HoldsIn m c q a b

  -- The pairs looked at for the numbers of rounds after r up to q.
  abbrev pairs : ℕ → ℕ → ℕ
  pairs r q = pairs_in m c a b (r + 1) (q - r)

  -- What is found of `many` numbers of rounds after r, with v pairs.
  Found : ℕ → ℕ → ℕ → Tried → Type 0
  Found v r many (Parted q) = (r < q) × (q ≤ r + many) × (¬ HoldsIn m c q a b) × HoldsTo (q - 1) × (pairs r q ≤ v)
  Found v r many (Held q) = (q ≡ r + many) × HoldsTo q × (pairs r q ≤ v)
  Found v r many (OutOfBudget q) = (r ≤ q) × (q < r + many) × HoldsTo q × (v < pairs r (q + 1))
  Found v r many (OutOfBounds q) = (r ≤ q) × (q < r + many) × HoldsTo q × (most_rounds_played ≤ q)

  abbrev seen : ℕ → Seen
  seen r = examine_in m c (r + 1) a b

  pairs_none : (r : ℕ) → pairs r r ≡ 0
  unfolding pairs_in
  pairs_none r = let z : r - r ≡ zero = omega arith in ap (λ (n : ℕ). pairs_in m c a b (r + 1) n) z

  pairs_all : (q : ℕ) → pairs 0 q ≡ pairs_in m c a b 1 q
  pairs_all q = let z : q - 0 ≡ q = omega arith in ap (λ (n : ℕ). pairs_in m c a b 1 n) z

  pairs_one : (r : ℕ) → pairs r (r + 1) ≡ (seen r).count
  pairs_one r = let z : r + 1 - r ≡ suc zero = omega arith in ap (λ (n : ℕ). pairs_in m c a b (r + 1) n) z ∙ pairs_alone (r + 1)

  pairs_on : (r q : ℕ) → r < q → (seen r).holds ≡ true → pairs r q ≡ (seen r).count + pairs (r + 1) q
  pairs_on r q l e =
      let z : q - r ≡ suc (q - (r + 1)) = omega arith in
      let y : suc (r + 1) ≡ r + 1 + 1 = omega arith in
      ap (λ (n : ℕ). pairs_in m c a b (r + 1) n) z
      ∙ pairs_more (r + 1) (q - (r + 1)) e
      ∙ ap (λ (i : ℕ). (seen r).count + pairs_in m c a b i (q - (r + 1))) y

  -- The pair holds at r + 1 rounds: what is found after them is found after r.
  found_on : (v r many : ℕ) → (seen r).holds ≡ true → (seen r).count ≤ v → (t : Tried) → Found (v - (seen r).count) (r + 1) many t → Found v r (suc many) t
  unfolding Found
  found_on v r many e l (Parted q) f = (omega (arith, f.0), omega (arith, f.1), f.2, f.3, omega (arith, pairs_on r q (omega (arith, f.0)) e, f.4))
  found_on v r many e l (Held q) f = (omega (arith, f.0), f.1, omega (arith, pairs_on r q (omega (arith, f.0)) e, f.2))
  found_on v r many e l (OutOfBudget q) f = (omega (arith, f.0), omega (arith, f.1), f.2, omega (arith, pairs_on r (q + 1) (omega (arith, f.0)) e, f.3))
  found_on v r many e l (OutOfBounds q) f = (omega (arith, f.0), omega (arith, f.1), f.2, f.3)

  found : (many v r : ℕ) → HoldsTo r → Found v r many (tried m c a b v r many)
  unfolding Found
  found zero v r h = rw (tried_none m c a b v r zero refl) (omega arith, h, omega (arith, pairs_none r))
  found (suc many) v r h = go (λ u. found many u (r + 1)) (dec_lt r most_rounds_played)
    where
      Later : Type 0
      Later = (u : ℕ) → HoldsTo (r + 1) → Found u (r + 1) many (tried m c a b u (r + 1) many)

      played : Later → r < most_rounds_played → (d : Bool) → (seen r).holds ≡ d → Tells d (HoldsIn m c (r + 1) a b) → Dec (v < (seen r).count) → Found v r (suc many) (tried m c a b v r (suc many))
      played later l d e t (yes g) = rw (tried_one m c a b v r many l, over v (seen r) g) (omega arith, omega arith, h, omega (arith, pairs_one r))
      played later l true e t (no g) =
          rw (tried_one m c a b v r many l, under v (seen r) (omega arith), e)
          (found_on v r many e (omega arith) (tried m c a b (v - (seen r).count) (r + 1) many) (later (v - (seen r).count) (λ q k. holds_less c m q (r + 1) a b k (t.fact tt))))
      played later l false e t (no g) =
          let z : r + 1 - 1 ≡ r = omega arith in
          rw (tried_one m c a b v r many l, under v (seen r) (omega arith), e) (omega arith, omega arith, (λ x. t.test x), rw z h, omega (arith, pairs_one r))

      go : Later → Dec (r < most_rounds_played) → Found v r (suc many) (tried m c a b v r (suc many))
      go later (yes l) = played later l (seen r).holds refl (tells_in c m (r + 1) a b) (dec_lt v (seen r).count)
      go later (no l) = rw (tried_bound m c a b v r many (omega arith)) (omega arith, omega arith, h, omega arith)

module _ (m : Sense) (s : List ℕ) (limit first second budget : ℕ) where
  -- The card, and the two fields.
  abbrev c : Card
  c = card_of s

  abbrev a : Field
  a = field_of s first

  abbrev b : Field
  b = field_of s second

  found_means : (t : Tried) → Found m c a b budget 0 limit t → Means m s first second limit budget t
  unfolding Found Means
  found_means (Parted r) f = (omega (arith, f.1), f.2, (λ q l. f.3 q (omega arith)), omega (arith, f.4, pairs_all m c a b r))
  found_means (Held r) f = (omega (arith, f.0), f.1, omega (arith, f.2, pairs_all m c a b r))
  found_means (OutOfBudget r) f = (omega (arith, f.1), f.2, omega (arith, f.3, pairs_all m c a b (r + 1)))
  found_means (OutOfBounds r) f = (omega (arith, f.1), inr (f.3, f.2))

  -- A pair that is shares_total holds at 0 rounds; one that is not is parted there.
  started : shares_total m c a b ≡ true → (q : ℕ) → q ≤ 0 → HoldsAt m s first second q
  started e q l = let z : q ≡ 0 = omega arith in rw z ((tells_start c m a b).fact (rw e tt))

  start_means : shares_total m c a b ≡ false → Means m s first second limit budget (Parted 0)
  unfolding Means pairs_in
  start_means e = (omega arith, (λ h. rw e at ((tells_start c m a b).test h)), (λ q l. absurd (omega arith)), omega arith)

  -- Every answer of the player means what it says.
  pub parting_means : Means m s first second limit budget (parting_of m s limit first second budget)
  unfolding Means
  parting_means = go (dec_lt most_kinds_played (kind_count s)) (dec_lt first (field_count s)) (dec_lt second (field_count s))
    where
      read : kind_count s ≤ most_kinds_played → first < field_count s → second < field_count s → (h : Bool) → shares_total m c a b ≡ h → Means m s first second limit budget (parting_of m s limit first second budget)
      read few one two true e = rw (← fields_tried m s limit first second budget few one two (sym e) refl) (found_means _ (found m c a b limit budget 0 (started e)))
      read few one two false e = rw (← fields_parted m s limit first second budget few one two (sym e) refl) (start_means e)

      go : Dec (most_kinds_played < kind_count s) → Dec (first < field_count s) → Dec (second < field_count s) → Means m s first second limit budget (parting_of m s limit first second budget)
      go (yes h) f g = rw (← kinds_bound m s limit first second budget h) (omega arith, inl (refl, inl h))
      go (no h) (no f) g = rw (← first_bound m s limit first second budget (omega arith) (omega arith)) (omega arith, inl (refl, inr (inl (omega arith))))
      go (no h) (yes f) (no g) = rw (← second_bound m s limit first second budget (omega arith) f (omega arith)) (omega arith, inl (refl, inr (inr (omega arith))))
      go (no h) (yes f) (yes g) = read (omega arith) f g (shares_total m c a b) refl

-- In the plain sense a pair past a bound of the player holds up to the rounds that are told, whether it was read or not: every pair holds at 0 rounds.
pub bounds_plain : (s : List ℕ) (limit first second budget r : ℕ) → Means plain s first second limit budget (OutOfBounds r) → (q : ℕ) → q ≤ r → HoldsAt plain s first second q
unfolding Means Holds
bounds_plain s limit first second budget r h q l = go h.1
  where
    go : ((r ≡ 0) × Unread s first second) ⊎ ((most_rounds_played ≤ r) × ((p : ℕ) → p ≤ r → HoldsAt plain s first second p)) → HoldsAt plain s first second q
    go (inl u) = let z : q ≡ 0 = omega (arith, u.0) in rw z tt
    go (inr u) = u.1 q l
