-- Whole games in each sense: the plain ones, and the same where a challenger also wins as soon as the totals differ.
use mathlib.Core.List.{List, [], ◌∷◌}
use mathlib.Core.Logic.{◌⊎◌, inl, inr}
use mathlib.Core.Path.{◌≡◌}
use Prim.Native.Nat.{ℕ, zero, suc, ◌<◌}
use native.Mathlib.Decide.{ℕ_discrete}
use Rattle.model.specs.Field.{Field, weigh}
use Rattle.model.specs.Card.{Line, Card, On, fire}
use Rattle.theory.specs.Expansion.{Simulates, Expands, flip}
use Rattle.model.specs.Sense.{Sense, plain, finer, total}
use Rattle.theory.specs.Game.{Side, first, second, Challenge, Beats, Strategy, Turn, Answered}
use Rattle.theory.specs.FinerGame.{EqualTotal, FinerHolds, FinerParting, at_once, by_first, by_second, FinerParted, FinerAnswered, HoldsIn, PartingIn, PartedIn, AnsweredIn}
use Rattle.theory.proofs.Search.{dec_and}
use Rattle.theory.proofs.Decide.{list_finite, dec_sim, dec_expands}
use Rattle.theory.proofs.Plays.{beats, parts, parted_not, parted_parting, parting_not, strategy_holds, plays_all}
use Rattle.theory.proofs.Senses.{weight_of}

module _ (c : Card) where
  dec_total : (a b : Field) → Dec (EqualTotal c a b)
  dec_total a b = ℕ_discrete (total c a) (total c b)

  dec_finer : (r : ℕ) (a b : Field) → Dec (FinerHolds c r a b)
  unfolding FinerHolds
  dec_finer zero a b = dec_total a b
  dec_finer (suc r) a b = dec_and (dec_total a b) (dec_expands (On c) (list_finite c.lines) (FinerHolds c r) (dec_finer r) a b)

  -- A pair that does not hold at r rounds is parted within them by some choice of challenges, and only such a pair.
  finer_parts : (r : ℕ) (a b : Field) → ¬ FinerHolds c r a b → FinerParted c r a b
  unfolding FinerHolds FinerParted
  finer_parts zero a b n = n
  finer_parts (suc r) a b n = go (dec_total a b) (dec_sim (On c) (list_finite c.lines) (FinerHolds c r) (dec_finer r) a b) (finer_parts r)
    where
      go : Dec (EqualTotal c a b) → Dec (Simulates (On c) (FinerHolds c r) a b) → ((x y : Field) → ¬ FinerHolds c r x y → FinerParted c r x y)
          → (¬ EqualTotal c a b) ⊎ (Beats c (FinerParted c r) a b ⊎ Beats c (flip (FinerParted c r)) b a)
      go (no e) d f = inl e
      go (yes e) (no m) f = inr (inl (beats c (FinerHolds c r) (FinerParted c r) (dec_finer r) f a b m))
      go (yes e) (yes x) f = inr (inr (beats c (flip (FinerHolds c r)) (flip (FinerParted c r)) (λ u v. dec_finer r v u) (λ u v. f v u) b a (λ y. n (e, (x, y)))))

  finer_parted_not : (r : ℕ) (a b : Field) → FinerParted c r a b → ¬ FinerHolds c r a b
  unfolding FinerHolds FinerParted
  finer_parted_not zero a b x h = x h
  finer_parted_not (suc r) a b (inl x) h = x h.0
  finer_parted_not (suc r) a b (inr (inl x)) h = let m = h.1.0 x.0 x.1 x.2 in finer_parted_not r _ _ (x.3 m.line (m.on, m.can, m.same)) m.rel
  finer_parted_not (suc r) a b (inr (inr x)) h = let m = h.1.1 x.0 x.1 x.2 in finer_parted_not r _ _ (x.3 m.line (m.on, m.can, m.same)) m.rel

  -- Unequal totals part a pair within any rounds.
  pub parted_total : (r : ℕ) (a b : Field) → ¬ EqualTotal c a b → FinerParted c r a b
  unfolding FinerParted
  parted_total zero a b n = n
  parted_total (suc r) a b n = inl n

  -- What is parted within some rounds is parted.
  finer_parted_parting : (r : ℕ) (a b : Field) → FinerParted c r a b → FinerParting c a b
  unfolding FinerParted
  finer_parted_parting zero a b x = at_once x
  finer_parted_parting (suc r) a b (inl x) = at_once x
  finer_parted_parting (suc r) a b (inr (inl x)) = by_first x.0 x.1 x.2 (λ m p. finer_parted_parting r _ _ (x.3 m p))
  finer_parted_parting (suc r) a b (inr (inr x)) = by_second x.0 x.1 x.2 (λ m p. finer_parted_parting r _ _ (x.3 m p))

  -- No choice of challenges parts a pair of a relation whose pairs have equal totals and, of fields in I, satisfy expansion in it.
  finer_parting_not : (R : Field → Field → Type 0) (I : Field → Type 0) → ((l : Line) → On c l → (a : Field) → 0 < a l.kind → I a → I (fire l a))
      → ((a b : Field) → I a → I b → R a b → Expands (On c) R a b) → ((a b : Field) → R a b → EqualTotal c a b) → {a b : Field} → FinerParting c a b → I a → I b → R a b → ⊥
  finer_parting_not R I keep B E (at_once {a = a} {b = b} n) u v p = n (E a b p)
  finer_parting_not R I keep B E (by_first {a = a} {b = b} l o h f) u v p =
      let m = (B a b u v p).0 l o h in
      finer_parting_not R I keep B E (f m.line (m.on, m.can, m.same)) (keep l o a h u) (keep m.line m.on b m.can v) m.rel
  finer_parting_not R I keep B E (by_second {a = a} {b = b} l o h f) u v p =
      let m = (B a b u v p).1 l o h in
      finer_parting_not R I keep B E (f m.line (m.on, m.can, m.same)) (keep m.line m.on a m.can u) (keep l o b h v) m.rel

  -- What is answered has equal totals.
  pub answered_total : (f : Strategy c) (K : Field → Field → Type 0) (past hs : List (Challenge c)) (a b : Field) → FinerAnswered c f K past hs a b → EqualTotal c a b
  unfolding FinerAnswered
  answered_total f K past [] a b x = x.0
  answered_total f K past (h ∷ hs) a b x = x.0

  -- A strategy that answers every list of challenges keeps the pair at every number of rounds.
  finer_strategy_holds : (f : Strategy c) (r : ℕ) (past : List (Challenge c)) (a b : Field)
      → ((hs : List (Challenge c)) → FinerAnswered c f (λ _ _. Unit {0}) past hs a b) → FinerHolds c r a b
  unfolding FinerHolds FinerAnswered
  finer_strategy_holds f zero past a b g = (g []).0
  finer_strategy_holds f (suc r) past a b g = (
    (g []).0,
    (
      (λ l o h.
          let q : Challenge c = record { side = first; line = l; on = o } in
          let x = ((g (q ∷ [])).1.0 h).0 in
          record {
            line = f past q;
            on = x.0;
            can = x.1;
            same = x.2;
            rel = finer_strategy_holds f r (q ∷ past) (fire l a) (fire (f past q) b) (λ hs. ((g (q ∷ hs)).1.0 h).1);
          }),
      (λ l o h.
          let q : Challenge c = record { side = second; line = l; on = o } in
          let x = ((g (q ∷ [])).1.0 h).0 in
          record {
            line = f past q;
            on = x.0;
            can = x.1;
            same = x.2;
            rel = finer_strategy_holds f r (q ∷ past) (fire (f past q) a) (fire l b) (λ hs. ((g (q ∷ hs)).1.0 h).1);
          }),
    ),
  )

  -- A strategy that answers every list of challenges and leaves equal totals after each: they were equal all along, since a list may end anywhere.
  module _ (f : Strategy c) (K : Field → Field → Type 0) where
    abbrev Ends : Field → Field → Type 0
    Ends a b = EqualTotal c a b × K a b

    abbrev All : List (Challenge c) → Field → Field → Type 0
    All past a b = (ks : List (Challenge c)) → Answered c f Ends past ks a b

    level_all : (hs past : List (Challenge c)) (a b : Field) → All past a b → FinerAnswered c f K past hs a b
    unfolding FinerAnswered Answered
    level_all [] past a b g = g []
    level_all (h ∷ hs) past a b g = ((g []).0, turn h.side (λ ks. g (h ∷ ks)) (level_all hs (h ∷ past)))
      where
        turn : (side : Side) → ((ks : List (Challenge c)) → Turn c side h.line (f past h) a b (Answered c f Ends (h ∷ past) ks))
            → ((x y : Field) → All (h ∷ past) x y → FinerAnswered c f K (h ∷ past) hs x y)
            → Turn c side h.line (f past h) a b (FinerAnswered c f K (h ∷ past) hs)
        turn first t r = ((λ can. (((t []).0 can).0, r _ _ (λ ks. ((t ks).0 can).1))), (λ n. r a b (λ ks. (t ks).1 n)))
        turn second t r = ((λ can. (((t []).0 can).0, r _ _ (λ ks. ((t ks).0 can).1))), (λ n. r a b (λ ks. (t ks).1 n)))

-- In each sense.
pub parts_in : (m : Sense) (c : Card) (r : ℕ) (a b : Field) → ¬ HoldsIn m c r a b → PartedIn m c r a b
parts_in plain = parts
parts_in finer = finer_parts

pub parted_not_in : (m : Sense) (c : Card) (r : ℕ) (a b : Field) → PartedIn m c r a b → ¬ HoldsIn m c r a b
parted_not_in plain = parted_not
parted_not_in finer = finer_parted_not

pub parted_parting_in : (m : Sense) (c : Card) (r : ℕ) (a b : Field) → PartedIn m c r a b → PartingIn m c a b
parted_parting_in plain = parted_parting
parted_parting_in finer = finer_parted_parting

pub strategy_holds_in : (m : Sense) (c : Card) (f : Strategy c) (r : ℕ) (past : List (Challenge c)) (a b : Field)
    → ((hs : List (Challenge c)) → AnsweredIn m c f (λ _ _. Unit {0}) past hs a b) → HoldsIn m c r a b
strategy_holds_in plain = strategy_holds
strategy_holds_in finer = finer_strategy_holds

-- A relation whose pairs share the second weight of the sense and, of fields in I, satisfy expansion in it: it is not parted, and if it is decided it gives a strategy.
module _ (m : Sense) (c : Card) (R : Field → Field → Type 0) (I : Field → Type 0) (keep : (l : Line) → On c l → (a : Field) → 0 < a l.kind → I a → I (fire l a))
    (B : (a b : Field) → I a → I b → R a b → Expands (On c) R a b) (E : (a b : Field) → R a b → weigh c.kinds (weight_of m) a ≡ weigh c.kinds (weight_of m) b) (a b : Field) where
  pub parting_not_in : PartingIn m c a b → I a → I b → ¬ R a b
  parting_not_in = go m E
    where
      go : (m : Sense) → ((a b : Field) → R a b → weigh c.kinds (weight_of m) a ≡ weigh c.kinds (weight_of m) b) → PartingIn m c a b → I a → I b → ¬ R a b
      go plain E x u v p = parting_not c R I keep B x u v p
      go finer E x u v p = finer_parting_not c R I keep B E x u v p

  pub plays_all_in : ((x y : Field) → Dec (R x y)) → (K : Field → Field → Type 0) → ((x y : Field) → I x × I y × R x y → K x y) → I a × I b × R a b
      → (f : Strategy c) × ((hs : List (Challenge c)) → AnsweredIn m c f K [] hs a b)
  plays_all_in d K k p = go m E
    where
      go : (m : Sense) → ((a b : Field) → R a b → weigh c.kinds (weight_of m) a ≡ weigh c.kinds (weight_of m) b)
          → (f : Strategy c) × ((hs : List (Challenge c)) → AnsweredIn m c f K [] hs a b)
      go plain E = plays_all c R d I keep B a b K k p
      go finer E =
          let g = plays_all c R d I keep B a b (λ x y. EqualTotal c x y × K x y) (λ x y q. (E x y q.2, k x y q)) p in
          (g.0, λ hs. level_all c g.0 K hs [] a b g.1)
