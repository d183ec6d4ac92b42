-- What is looked at in a sense is the game of that sense: a pair holds where what was looked at does.
use mathlib.Core.Bool.{Bool, true, false}
use mathlib.Core.List.{List}
use mathlib.Core.Path.{◌≡◌, refl, ap, ◌∙◌}
use Prim.Native.Nat.{ℕ, zero, suc, ◌+◌, ◌≤◌}
use native.Mathlib.Omega.{arith}
use lib.Dec.{ltb, leb}
use Rattle.model.specs.Finite.{both}
use Rattle.model.specs.Field.{Field}
use Rattle.model.specs.Card.{Card, On}
use Rattle.model.specs.Sense.{Sense, plain, finer, total}
use Rattle.model.specs.Sheet.{kind_count, field_count, card_of, field_of}
use Rattle.model.specs.Walk.{Seen, examine, apart, Walk, walk_on, walk}
use Rattle.theory.specs.Game.{Holds}
use Rattle.theory.specs.FinerGame.{FinerHolds, HoldsIn}
use Rattle.theory.specs.Counted.{cut}
use Rattle.theory.proofs.Moves.{expands_mono}
use Rattle.theory.proofs.Exec.{Tells, tells_map, tells_eq}
use Rattle.theory.proofs.Walks.{tells_sides, tells_examine, Holds_less}
use Rattle.test_player.specs.declared.game.Tried.{Tried}
use Rattle.test_player.specs.declared.game.Tried.TheVariants.{OutOfBounds}
use Rattle.test_player.specs.Played.{shares_total, if_shared, both_sides, examine_in, most_kinds_played, most_rounds_played, next, tried, parting_of}
use Rattle.test_player.specs.Meaning.{pairs_in}
use Rattle.test_player.proofs.Pairs.{examine_plain}

-- A pair of unequal totals fails.
tells_shared : (h : Bool) (s : Seen) {A B : Type 0} → Tells h A → Tells s.holds B → Tells (if_shared h s).holds (A × B)
tells_shared true s f g = record { fact = λ t. (f.fact tt, g.fact t); test = λ x. g.test x.1 }
tells_shared false s f g = record { fact = λ t. absurd t; test = λ x. f.test x.0 }

module _ (c : Card) where
  tells_finer : (r : ℕ) (a b : Field) → Tells (examine_in finer c r a b).holds (FinerHolds c r a b)
  unfolding examine_in FinerHolds
  tells_finer zero a b =
      tells_map (λ x. x.0) (λ x. (x, tt)) (tells_shared (shares_total finer c a b) (record { holds = true; count = 1 }) (tells_eq (total c a) (total c b)) (record { fact = λ t. t; test = λ t. t }))
  tells_finer (suc r) a b =
      tells_shared (shares_total finer c a b) (both_sides (examine_in finer c r) c.lines a b) (tells_eq (total c a) (total c b)) (tells_sides c (examine_in finer c r) (FinerHolds c r) (tells_finer r) a b)

  -- What is looked at at r rounds holds just when the pair does.
  pub tells_in : (m : Sense) (r : ℕ) (a b : Field) → Tells (examine_in m c r a b).holds (HoldsIn m c r a b)
  tells_in plain r a b = rw (examine_plain c r) (tells_examine c r a b)
  tells_in finer r a b = tells_finer r a b

  -- What is looked at first holds just when the pair does at 0 rounds.
  pub tells_start : (m : Sense) (a b : Field) → Tells (shares_total m c a b) (HoldsIn m c 0 a b)
  unfolding Holds FinerHolds
  tells_start plain a b = record { fact = λ _. tt; test = λ _. tt }
  tells_start finer a b = tells_eq (total c a) (total c b)

  finer_less : (r d : ℕ) (a b : Field) → r ≤ d → FinerHolds c d a b → FinerHolds c r a b
  unfolding FinerHolds
  finer_less zero zero a b l h = h
  finer_less zero (suc d) a b l h = h.0
  finer_less (suc r) zero a b l h = absurd (omega arith)
  finer_less (suc r) (suc d) a b l h = (h.0, expands_mono (On c) (FinerHolds c d) (FinerHolds c r) (λ x y. finer_less r d x y (omega arith)) a b h.1)

  -- A pair that holds at some number of rounds holds at every lower one.
  pub holds_less : (m : Sense) (r d : ℕ) (a b : Field) → r ≤ d → HoldsIn m c d a b → HoldsIn m c r a b
  holds_less plain r d a b l h = Holds_less c r d a b l h
  holds_less finer r d a b l h = finer_less r d a b l h

  -- In the plain sense the pairs are counted as the model's walk does.
  pub pairs_plain : (a b : Field) (many r : ℕ) → pairs_in plain c a b r many ≡ (walk c.lines a b r many).count
  unfolding pairs_in walk
  pairs_plain a b zero r = refl
  pairs_plain a b (suc many) r = ap (λ (see : Field → Field → Seen). counted (see a b)) (examine_plain c r) ∙ go s.holds (pairs_plain a b many (suc r))
    where
      counted : Seen → ℕ
      counted p = elim p.holds as (λ _. ℕ) [ true ↦ p.count + pairs_in plain c a b (suc r) many | false ↦ p.count ]

      s : Seen
      s = examine c.lines r a b

      rest : Walk
      rest = walk c.lines a b (suc r) many

      go : (h : Bool) → pairs_in plain c a b (suc r) many ≡ rest.count
          → (elim h as (λ _. ℕ) [ true ↦ s.count + pairs_in plain c a b (suc r) many | false ↦ s.count ]) ≡ (elim h as (λ _. Walk) [ true ↦ walk_on s.count rest | false ↦ record { found = apart r; count = s.count } ]).count
      go true e = ap (λ (n : ℕ). s.count + n) e
      go false e = refl

  -- In the plain sense the numbers of rounds are tried by the model's `examine` alone.
  pub tried_plain : (a b : Field) (budget r many : ℕ)
      → tried plain c a b budget r (suc many) ≡ (elim (ltb r most_rounds_played) as (λ _. Tried) [ true ↦ next r (cut budget (examine c.lines (r + 1) a b)) (λ left. tried plain c a b left (r + 1) many) | false ↦ OutOfBounds r ])
  unfolding tried
  tried_plain a b budget r many =
      ap (λ (see : Field → Field → Seen). elim (ltb r most_rounds_played) as (λ _. Tried) [ true ↦ next r (cut budget (see a b)) (λ left. tried plain c a b left (r + 1) many) | false ↦ OutOfBounds r ]) (examine_plain c (r + 1))

-- In the plain sense nothing is looked at at the start.
pub parting_plain : (s : List ℕ) (limit first second budget : ℕ)
    → parting_of plain s limit first second budget
    ≡ (elim (both (leb (kind_count s) most_kinds_played) (both (ltb first (field_count s)) (ltb second (field_count s)))) as (λ _. Tried) [ true ↦ tried plain (card_of s) (field_of s first) (field_of s second) budget 0 limit | false ↦ OutOfBounds 0 ])
unfolding parting_of
parting_plain s limit first second budget = refl
