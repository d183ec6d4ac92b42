-- Whole games: a strategy for the replier where the pair always holds, and for the challenger where it does not.
use mathlib.Core.List.{List, [], ◌∷◌, Memᴰ}
use mathlib.Core.Logic.{◌⊎◌, inl, inr}
use mathlib.Core.Path.{◌≡◌, refl, sym, ◌∙◌, ap, subst}
use Prim.Native.Nat.{ℕ, zero, suc, ◌<◌}
use native.Mathlib.Decide.{dec_lt}
use Rattle.model.specs.Field.{Field}
use Rattle.model.specs.Card.{Line, Card, On, fire}
use Rattle.theory.specs.Expansion.{Reply, Simulates, Expands, flip}
use Rattle.theory.specs.Game.{Side, first, second, Challenge, Holds, Replies, Beats, Parting, by_first, by_second, Parted, Strategy, Turn, Answered}
use Rattle.theory.proofs.Search.{dec_and, dec_not}
use Rattle.theory.proofs.Decide.{list_finite, dec_reply, dec_sim, dec_expands}

module _ (c : Card) where
  pub dec_holds : (r : ℕ) (a b : Field) → Dec (Holds c r a b)
  unfolding Holds
  dec_holds zero a b = yes tt
  dec_holds (suc r) a b = dec_expands (On c) (list_finite c.lines) (Holds c r) (dec_holds r) a b

  -- Where a side does not simulate the other, one of its lines beats every reply.
  pub beats : (R Q : Field → Field → Type 0) → ((x y : Field) → Dec (R x y)) → ((x y : Field) → ¬ R x y → Q x y)
      → (a b : Field) → ¬ Simulates (On c) R a b → Beats c Q a b
  beats R Q d f a b n = go (list_finite c.lines Bad dec_bad)
    where
      Bad : Line → Type 0
      Bad l = (0 < a l.kind) × (¬ Reply (On c) R l.code (fire l a) b)

      dec_bad : (l : Line) → Dec (Bad l)
      dec_bad l = dec_and (dec_lt 0 (a l.kind)) (dec_not (dec_reply (On c) (list_finite c.lines) R d l.code (fire l a) b))

      good : (l : Line) → Dec (Reply (On c) R l.code (fire l a) b) → ¬ (¬ Reply (On c) R l.code (fire l a) b) → Reply (On c) R l.code (fire l a) b
      good l (yes x) m = x
      good l (no x) m = absurd (m x)

      go : Dec ((l : Line) × Memᴰ l c.lines × Bad l) → Beats c Q a b
      go (yes t) =
          let l = t.0 in
          (l, t.1, t.2.0, λ m p. f (fire l a) (fire m b) (λ x. t.2.1 (record { line = m; on = p.0; can = p.1; same = p.2; rel = x })))
      go (no t) =
          absurd (n (λ l o h. good l (dec_reply (On c) (list_finite c.lines) R d l.code (fire l a) b) (λ x. t (l, o, (h, x)))))

  -- A pair that does not hold at r rounds is parted within them by some choice of challenges, and only such a pair.
  pub parts : (r : ℕ) (a b : Field) → ¬ Holds c r a b → Parted c r a b
  unfolding Holds Parted
  parts zero a b n = n tt
  parts (suc r) a b n = go (dec_sim (On c) (list_finite c.lines) (Holds c r) (dec_holds r) a b) (parts r)
    where
      go : Dec (Simulates (On c) (Holds c r) a b) → ((x y : Field) → ¬ Holds c r x y → Parted c r x y) → Beats c (Parted c r) a b ⊎ Beats c (flip (Parted c r)) b a
      go (no m) f = inl (beats (Holds c r) (Parted c r) (dec_holds r) f a b m)
      go (yes x) f = inr (beats (flip (Holds c r)) (flip (Parted c r)) (λ u v. dec_holds r v u) (λ u v. f v u) b a (λ y. n (x, y)))

  pub parted_not : (r : ℕ) (a b : Field) → Parted c r a b → ¬ Holds c r a b
  unfolding Holds Parted
  parted_not zero a b x h = x
  parted_not (suc r) a b (inl x) h = let m = h.0 x.0 x.1 x.2 in parted_not r _ _ (x.3 m.line (m.on, m.can, m.same)) m.rel
  parted_not (suc r) a b (inr x) h = let m = h.1 x.0 x.1 x.2 in parted_not r _ _ (x.3 m.line (m.on, m.can, m.same)) m.rel

  -- What is parted within some rounds is parted.
  pub parted_parting : (r : ℕ) (a b : Field) → Parted c r a b → Parting c a b
  unfolding Parted
  parted_parting zero a b x = absurd x
  parted_parting (suc r) a b (inl x) = by_first x.0 x.1 x.2 (λ m p. parted_parting r _ _ (x.3 m p))
  parted_parting (suc r) a b (inr x) = by_second x.0 x.1 x.2 (λ m p. parted_parting r _ _ (x.3 m p))

  -- No choice of challenges parts a pair of a relation whose pairs of fields in I satisfy expansion in it.
  pub parting_not : (R : Field → Field → Type 0) (I : Field → Type 0) → ((l : Line) → On c l → (a : Field) → 0 < a l.kind → I a → I (fire l a))
      → ((a b : Field) → I a → I b → R a b → Expands (On c) R a b) → {a b : Field} → Parting c a b → I a → I b → R a b → ⊥
  parting_not R I keep B (by_first {a = a} {b = b} l o h f) u v p =
      let m = (B a b u v p).0 l o h in
      parting_not R I keep B (f m.line (m.on, m.can, m.same)) (keep l o a h u) (keep m.line m.on b m.can v) m.rel
  parting_not R I keep B (by_second {a = a} {b = b} l o h f) u v p =
      let m = (B a b u v p).1 l o h in
      parting_not R I keep B (f m.line (m.on, m.can, m.same)) (keep m.line m.on a m.can u) (keep l o b h v) m.rel

  -- A strategy that answers every list of challenges keeps the pair at every number of rounds.
  pub strategy_holds : (f : Strategy c) (r : ℕ) (past : List (Challenge c)) (a b : Field)
      → ((hs : List (Challenge c)) → Answered c f (λ _ _. Unit {0}) past hs a b) → Holds c r a b
  unfolding Holds Answered
  strategy_holds f zero past a b g = tt
  strategy_holds f (suc r) past a b g = (
    (λ l o h.
        let q : Challenge c = record { side = first; line = l; on = o } in
        let x = ((g (q ∷ [])).0 h).0 in
        record {
          line = f past q;
          on = x.0;
          can = x.1;
          same = x.2;
          rel = strategy_holds f r (q ∷ past) (fire l a) (fire (f past q) b) (λ hs. ((g (q ∷ hs)).0 h).1);
        }),
    (λ l o h.
        let q : Challenge c = record { side = second; line = l; on = o } in
        let x = ((g (q ∷ [])).0 h).0 in
        record {
          line = f past q;
          on = x.0;
          can = x.1;
          same = x.2;
          rel = strategy_holds f r (q ∷ past) (fire (f past q) a) (fire l b) (λ hs. ((g (q ∷ hs)).0 h).1);
        }),
  )

  -- A relation that is decided, and whose pairs of fields in I satisfy expansion in it, gives a strategy: reply by the first line that leaves a
  -- related pair, the pair being the one that the challenges so far and these replies to them have left.
  module _ (R : Field → Field → Type 0) (d : (x y : Field) → Dec (R x y)) (I : Field → Type 0) (keep : (l : Line) → On c l → (a : Field) → 0 < a l.kind → I a → I (fire l a))
      (B : (a b : Field) → I a → I b → R a b → Expands (On c) R a b) where
    abbrev Good : Field → Field → Type 0
    Good a b = I a × I b × R a b

    line_of : (Q : Field → Field → Type 0) (l : Line) (x b : Field) → Dec (Reply (On c) Q l.code x b) → Line
    line_of Q l x b (yes r) = r.line
    line_of Q l x b (no n) = l

    -- The reply to line l of side a.
    reply : (Q : Field → Field → Type 0) → ((x y : Field) → Dec (Q x y)) → Line → Field → Field → Line
    reply Q e l a b = line_of Q l (fire l a) b (dec_reply (On c) (list_finite c.lines) Q e l.code (fire l a) b)

    reply_good : (Q : Field → Field → Type 0) (e : (x y : Field) → Dec (Q x y)) (l : Line) (a b : Field) → Reply (On c) Q l.code (fire l a) b
        → Replies c l (reply Q e l a b) b × Q (fire l a) (fire (reply Q e l a b) b)
    unfolding reply line_of
    reply_good Q e l a b x = go (dec_reply (On c) (list_finite c.lines) Q e l.code (fire l a) b)
      where
        go : (y : Dec (Reply (On c) Q l.code (fire l a) b)) → Replies c l (line_of Q l (fire l a) b y) b × Q (fire l a) (fire (line_of Q l (fire l a) b y) b)
        go (yes r) = ((r.on, r.can, r.same), r.rel)
        go (no n) = absurd (n x)

    abbrev Pair : Type 0
    Pair = Field × Field

    respond : Side → Line → Pair → Line
    respond first l p = reply R d l p.0 p.1
    respond second l p = reply (flip R) (λ x y. d y x) l p.1 p.0

    -- The pair after line l of a side, and m in reply, or the same pair where l is passed over.
    after : {A : Type 0} → Dec A → Pair → Pair → Pair
    after (yes _) p q = p
    after (no _) p q = q

    after_yes : {A : Type 0} (e : Dec A) (p q : Pair) → A → after e p q ≡ p
    unfolding after
    after_yes (yes _) p q a = refl
    after_yes (no n) p q a = absurd (n a)

    after_no : {A : Type 0} (e : Dec A) (p q : Pair) → ¬ A → after e p q ≡ q
    unfolding after
    after_no (yes a) p q n = absurd (n a)
    after_no (no _) p q n = refl

    move : Side → Line → Line → Pair → Pair
    move first l m p = after (dec_lt 0 (p.0 l.kind)) (fire l p.0, fire m p.1) p
    move second l m p = after (dec_lt 0 (p.1 l.kind)) (fire m p.0, fire l p.1) p

    module _ (a b : Field) where
      state : List (Challenge c) → Pair
      state [] = (a, b)
      state (h ∷ past) = move h.side h.line (respond h.side h.line (state past)) (state past)

      strategy : Strategy c
      strategy past h = respond h.side h.line (state past)

      state_next : (h : Challenge c) (past : List (Challenge c)) (side : Side) → h.side ≡ side → state (h ∷ past) ≡ move side h.line (strategy past h) (state past)
      unfolding state strategy
      state_next h past side e = ap (λ x. move x h.line (respond h.side h.line (state past)) (state past)) e

      strategy_is : (h : Challenge c) (past : List (Challenge c)) (side : Side) → h.side ≡ side → strategy past h ≡ respond side h.line (state past)
      unfolding strategy
      strategy_is h past side e = ap (λ x. respond x h.line (state past)) e

      module _ (K : Field → Field → Type 0) (k : (x y : Field) → Good x y → K x y) where
        Goes : List (Challenge c) → List (Challenge c) → Pair → Type 0
        Goes past hs p = Good p.0 p.1 → Answered c strategy K past hs p.0 p.1

        one_turn : (h : Challenge c) (past hs : List (Challenge c)) → Good (state past).0 (state past).1 → (side : Side) → h.side ≡ side
            → Goes (h ∷ past) hs (state (h ∷ past)) → Turn c side h.line (strategy past h) (state past).0 (state past).1 (Answered c strategy K (h ∷ past) hs)
        unfolding Goes move respond
        one_turn h past hs p first e g = (
          (λ can.
              let u = reply_good R d h.line s.0 s.1 ((B s.0 s.1 p.0 p.1 p.2).0 h.line h.on can) in
              let q = state_next h past first e ∙ after_yes (dec_lt 0 (s.0 h.line.kind)) (fire h.line s.0, fire (strategy past h) s.1) s can in
              let m = sym (strategy_is h past first e) in (
                subst (λ (x : Line). Replies c h.line x s.1) m u.0,
                subst (Goes (h ∷ past) hs) q g
                    (subst (λ (x : Line). Good (fire h.line s.0) (fire x s.1)) m (keep h.line h.on s.0 can p.0, keep _ u.0.0 s.1 u.0.1 p.1, u.1)),
              )),
          (λ n. subst (Goes (h ∷ past) hs) (state_next h past first e ∙ after_no (dec_lt 0 (s.0 h.line.kind)) (fire h.line s.0, fire (strategy past h) s.1) s n) g p),
        )
          where
            s : Pair
            s = state past
        one_turn h past hs p second e g = (
          (λ can.
              let u = reply_good (flip R) (λ x y. d y x) h.line s.1 s.0 ((B s.0 s.1 p.0 p.1 p.2).1 h.line h.on can) in
              let q = state_next h past second e ∙ after_yes (dec_lt 0 (s.1 h.line.kind)) (fire (strategy past h) s.0, fire h.line s.1) s can in
              let m = sym (strategy_is h past second e) in (
                subst (λ (x : Line). Replies c h.line x s.0) m u.0,
                subst (Goes (h ∷ past) hs) q g
                    (subst (λ (x : Line). Good (fire x s.0) (fire h.line s.1)) m (keep _ u.0.0 s.0 u.0.1 p.0, keep h.line h.on s.1 can p.1, u.1)),
              )),
          (λ n. subst (Goes (h ∷ past) hs) (state_next h past second e ∙ after_no (dec_lt 0 (s.1 h.line.kind)) (fire (strategy past h) s.0, fire h.line s.1) s n) g p),
        )
          where
            s : Pair
            s = state past

        plays : (hs past : List (Challenge c)) → Good (state past).0 (state past).1 → Answered c strategy K past hs (state past).0 (state past).1
        unfolding Answered Goes
        plays [] past p = k (state past).0 (state past).1 p
        plays (h ∷ hs) past p = one_turn h past hs p h.side refl (plays hs (h ∷ past))

        pub plays_all : Good a b → (f : Strategy c) × ((hs : List (Challenge c)) → Answered c f K [] hs a b)
        unfolding state
        plays_all p = (strategy, λ hs. plays hs [] p)
