-- The walk's answer is the game's.
use mathlib.Core.Bool.{Bool, true, false}
use mathlib.Core.List.{List, [], ◌∷◌, Memᴰ}
use mathlib.Core.Logic.{◌⊎◌, inl, inr}
use mathlib.Core.Path.{◌≡◌, refl, sym, ◌∙◌, ap}
use Prim.Native.Nat.{ℕ, zero, suc, ◌+◌, ◌≤◌, ◌<◌}
use native.Mathlib.Decide.{dec_lt}
use native.Mathlib.Omega.{arith}
use lib.Dec.{eqb, ltb}
use Rattle.model.specs.Finite.{both}
use Rattle.model.specs.Field.{Field}
use Rattle.model.specs.Card.{Line, Card, On, fire}
use Rattle.theory.specs.Expansion.{Simulates, Expands, flip}
use Rattle.theory.specs.Game.{Holds}
use Rattle.model.specs.Walk.{Seen, more, try_replies, try_challenges, examine, WalkAnswer, apart, together, spent, Walk, walk_on, walk}
use Rattle.theory.specs.Meanings.{Walks}
use Rattle.model.specs.Sheet.{card_of, field_of}
use Rattle.model.specs.Answer.{full_walk}
use Rattle.theory.proofs.Moves.{expands_mono}
use Rattle.theory.proofs.Exec.{Tells, tells_and, tells_map, tells_lt, tells_eq}

module _ (xs : List Line) (see : Field → Field → Seen) (R : Field → Field → Type 0) (f : (x y : Field) → Tells (see x y).holds (R x y)) where
  -- One of the lines given is a reply that leaves a pair in R.
  abbrev Hit : Line → Field → Field → Line → Type 0
  Hit l x b m = ((0 < b m.kind) × (m.code ≡ l.code)) × R x (fire m b)

  tells_replies : (l : Line) (x b : Field) (ms : List Line) → Tells (try_replies see l x b ms).holds ((m : Line) × Memᴰ m ms × Hit l x b m)
  unfolding try_replies
  tells_replies l x b [] = record { fact = λ t. absurd t; test = λ t. elim t.1 [ ] }
  tells_replies l x b (m ∷ ms) =
      go (both (ltb 0 (b m.kind)) (eqb m.code l.code)) (tells_and _ _ (tells_lt 0 (b m.kind)) (tells_eq m.code l.code)) (tells_replies l x b ms)
    where
      Goal : Seen → Type 0
      Goal s = Tells s.holds ((y : Line) × Memᴰ y (m ∷ ms) × Hit l x b y)

      s : Seen
      s = see x (fire m b)

      rest : Seen
      rest = try_replies see l x b ms

      later : ¬ Hit l x b m → Tells rest.holds ((y : Line) × Memᴰ y ms × Hit l x b y) → Tells rest.holds ((y : Line) × Memᴰ y (m ∷ ms) × Hit l x b y)
      later n r = tells_map (λ t. (t.0, Memᴰ.tail t.1, t.2)) (λ t. drop t.0 t.1 t.2) r
        where
          drop : (y : Line) → Memᴰ y (m ∷ ms) → Hit l x b y → (y : Line) × Memᴰ y ms × Hit l x b y
          drop y (Memᴰ.head e) h = absurd (n (rw e at h))
          drop y (Memᴰ.tail t) h = (y, t, h)

      tried : (b' : Bool) → Tells b' (R x (fire m b)) → ((0 < b m.kind) × (m.code ≡ l.code)) → s.holds ≡ b' → Tells rest.holds ((y : Line) × Memᴰ y ms × Hit l x b y)
          → Goal (elim b' as (λ _. Seen) [ true ↦ s | false ↦ more s.count rest ])
      tried true t u e r = record { fact = λ _. (m, Memᴰ.head refl, (u, t.fact tt)); test = λ _. rw e tt }
      tried false t u e r = later (λ h. t.test h.1) r

      go : (b' : Bool) → Tells b' ((0 < b m.kind) × (m.code ≡ l.code)) → Tells rest.holds ((y : Line) × Memᴰ y ms × Hit l x b y)
          → Goal (elim b' as (λ _. Seen) [ true ↦ elim s.holds as (λ _. Seen) [ true ↦ s | false ↦ more s.count rest ] | false ↦ rest ])
      go true t r = tried s.holds (f x (fire m b)) (t.fact tt) refl r
      go false t r = later (λ h. t.test h.0) r

  tells_challenges : (a b : Field) (ls : List Line)
      → Tells (try_challenges see xs a b ls).holds ((l : Line) → Memᴰ l ls → 0 < a l.kind → (m : Line) × Memᴰ m xs × Hit l (fire l a) b m)
  unfolding try_challenges
  tells_challenges a b [] = record { fact = λ t l m. elim m [ ]; test = λ _. tt }
  tells_challenges a b (l ∷ ls) = go (ltb 0 (a l.kind)) (tells_lt 0 (a l.kind)) (tells_challenges a b ls)
    where
      Answers : Line → Type 0
      Answers l = (m : Line) × Memᴰ m xs × Hit l (fire l a) b m

      All : List Line → Type 0
      All ls = (l : Line) → Memᴰ l ls → 0 < a l.kind → Answers l

      s : Seen
      s = try_replies see l (fire l a) b xs

      rest : Seen
      rest = try_challenges see xs a b ls

      with_first : (0 < a l.kind → Answers l) → All ls → All (l ∷ ls)
      with_first g h y (Memᴰ.head e) = rw e g
      with_first g h y (Memᴰ.tail t) = h y t

      tried : (b' : Bool) → Tells b' (Answers l) → 0 < a l.kind → s.holds ≡ b' → Tells rest.holds (All ls)
          → Tells (elim b' as (λ _. Seen) [ true ↦ more s.count rest | false ↦ s ]).holds (All (l ∷ ls))
      tried true t u e r = tells_map (λ g. with_first (λ _. t.fact tt) g) (λ g y m. g y (Memᴰ.tail m)) r
      tried false t u e r = record { fact = λ z. absurd (rw e at z); test = λ g. absurd (t.test (g l (Memᴰ.head refl) u)) }

      go : (b' : Bool) → Tells b' (0 < a l.kind) → Tells rest.holds (All ls)
          → Tells (elim b' as (λ _. Seen) [ true ↦ elim s.holds as (λ _. Seen) [ true ↦ more s.count rest | false ↦ s ] | false ↦ rest ]).holds (All (l ∷ ls))
      go true t r = tried s.holds (tells_replies l (fire l a) b xs) (t.fact tt) refl r
      go false t r = tells_map (λ g. with_first (λ h. absurd (t.test h)) g) (λ g y m. g y (Memᴰ.tail m)) r

module _ (c : Card) where
  tells_side : (see : Field → Field → Seen) (R : Field → Field → Type 0) → ((x y : Field) → Tells (see x y).holds (R x y))
      → (a b : Field) → Tells (try_challenges see c.lines a b c.lines).holds (Simulates (On c) R a b)
  tells_side see R f a b =
      tells_map (λ g l o h. let t = g l o h in record { line = t.0; on = t.1; can = t.2.0.0; same = t.2.0.1; rel = t.2.1 })
      (λ g l o h. let t = g l o h in (t.line, t.on, ((t.can, t.same), t.rel)))
      (tells_challenges c.lines see R f a b c.lines)

  -- A pair at a round or more holds where the challenges of both sides do; what is seen of the pairs that replies leave tells R.
  pub tells_sides : (see : Field → Field → Seen) (R : Field → Field → Type 0) → ((x y : Field) → Tells (see x y).holds (R x y)) → (a b : Field)
      → let s = try_challenges see c.lines a b c.lines in
      Tells (elim s.holds as (λ _. Seen) [ true ↦ more (suc s.count) (try_challenges (λ x y. see y x) c.lines b a c.lines) | false ↦ more 1 s ]).holds (Expands (On c) R a b)
  tells_sides see R f a b = go s.holds (tells_side see R f a b) refl (tells_side (λ x y. see y x) (flip R) (λ x y. f y x) b a)
    where
      s : Seen
      s = try_challenges see c.lines a b c.lines

      u : Seen
      u = try_challenges (λ x y. see y x) c.lines b a c.lines

      go : (b' : Bool) → Tells b' (Simulates (On c) R a b) → s.holds ≡ b' → Tells u.holds (Simulates (On c) (flip R) b a)
          → Tells (elim b' as (λ _. Seen) [ true ↦ more (suc s.count) u | false ↦ more 1 s ]).holds (Expands (On c) R a b)
      go true t e v = tells_map (λ y. (t.fact tt, y)) (λ y. y.1) v
      go false t e v = record { fact = λ z. absurd (rw e at z); test = λ y. absurd (t.test y.0) }

  -- What is examined holds just when the pair does.
  pub tells_examine : (r : ℕ) (a b : Field) → Tells (examine c.lines r a b).holds (Holds c r a b)
  unfolding examine Holds
  tells_examine zero a b = record { fact = λ _. tt; test = λ _. tt }
  tells_examine (suc r) a b = tells_sides (examine c.lines r) (Holds c r) (tells_examine r) a b

  pub Holds_less : (r d : ℕ) (a b : Field) → r ≤ d → Holds c d a b → Holds c r a b
  unfolding Holds
  Holds_less zero d a b i h = tt
  Holds_less (suc r) zero a b i h = absurd (omega arith)
  Holds_less (suc r) (suc d) a b i h = expands_mono (On c) (Holds c d) (Holds c r) (λ x y. Holds_less r d x y (omega arith)) a b h

  -- What the walk finds, by cases.
  module _ (a b : Field) where
    abbrev Parts : ℕ → ℕ → Type 0
    Parts most r = (r ≤ most) × (¬ Holds c r a b) × ((q : ℕ) → q < r → Holds c q a b)

    walk_cases : (many at : ℕ) → ((q : ℕ) → q < at → Holds c q a b)
        → (((walk c.lines a b at many).found ≡ together) × ((q : ℕ) → q < at + many → Holds c q a b))
        ⊎ ((r : ℕ) × ((walk c.lines a b at many).found ≡ apart r) × (suc r ≤ at + many) × (¬ Holds c r a b) × ((q : ℕ) → q < r → Holds c q a b))
    unfolding walk
    walk_cases zero at h = inl (refl, λ q l. h q (omega arith))
    walk_cases (suc many) at h = go s.holds (tells_examine at a b) (walk_cases many (suc at))
      where
        s : Seen
        s = examine c.lines at a b

        rest : Walk
        rest = walk c.lines a b (suc at) many

        Found : Walk → ℕ → Type 0
        Found v most =
            ((v.found ≡ together) × ((q : ℕ) → q < most → Holds c q a b))
            ⊎ ((r : ℕ) × (v.found ≡ apart r) × (suc r ≤ most) × (¬ Holds c r a b) × ((q : ℕ) → q < r → Holds c q a b))

        upto : Holds c at a b → (q : ℕ) → q < suc at → Holds c q a b
        upto x q l = Holds_less q at a b (omega arith) x

        go : (b' : Bool) → Tells b' (Holds c at a b) → (((q : ℕ) → q < suc at → Holds c q a b) → Found rest (suc at + many))
            → Found (elim b' as (λ _. Walk) [ true ↦ walk_on s.count rest | false ↦ record { found = apart at; count = s.count } ]) (at + suc many)
        go true t g = pick (g (upto (t.fact tt)))
          where
            pick : Found rest (suc at + many) → Found (walk_on s.count rest) (at + suc many)
            pick (inl x) = inl (x.0, λ q l. x.1 q (omega arith))
            pick (inr x) = inr (x.0, x.1, omega (arith, x.2), x.3, x.4)
        go false t g = inr (at, refl, omega arith, (λ x. t.test x), h)

-- The walk by what its first number of rounds comes to.
module _ (xs : List Line) (a b : Field) (r many : ℕ) where
  pub walk_parts : (examine xs r a b).holds ≡ false → walk xs a b r (suc many) ≡ record { found = apart r; count = (examine xs r a b).count }
  unfolding walk
  walk_parts e = rw (e, walk) refl

  pub walk_holds : (examine xs r a b).holds ≡ true → walk xs a b r (suc many) ≡ walk_on (examine xs r a b).count (walk xs a b (suc r) many)
  unfolding walk
  walk_holds e = rw (e, walk) refl

-- It never finds spent: that is the allowance's.
pub walk_not_spent : (xs : List Line) (a b : Field) (many at : ℕ) → ¬ ((walk xs a b at many).found ≡ spent)
unfolding walk
walk_not_spent xs a b zero at e = let z : ◌≡◌ {A = ℕ} 0 1 = cc in omega arith
walk_not_spent xs a b (suc many) at e = go s.holds (walk_not_spent xs a b many (suc at)) e
  where
    s : Seen
    s = examine xs at a b

    rest : Walk
    rest = walk xs a b (suc at) many

    go : (b' : Bool) → ¬ (rest.found ≡ spent)
        → ¬ ((elim b' as (λ _. Walk) [ true ↦ walk_on s.count rest | false ↦ record { found = apart at; count = s.count } ]).found ≡ spent)
    go true n d = n d
    go false n d = let z : ◌≡◌ {A = ℕ} 0 1 = cc in omega arith

apart_not : (r : ℕ) → ◌≡◌ {A = WalkAnswer} (apart r) together → ⊥
apart_not r e = let z : ◌≡◌ {A = ℕ} 0 1 = cc in omega arith

-- Apart with the first number of rounds that parts the pair, or together.
pub walks : (s : List ℕ) (i j limit : ℕ) → Walks s i j limit
unfolding full_walk Holds
walks s i j limit = go (walk_cases c a b limit 1 (λ q l. Holds_less c q 0 a b (omega arith) tt))
  where
    c : Card
    c = card_of s

    a : Field
    a = field_of s i

    b : Field
    b = field_of s j

    v : Walk
    v = walk c.lines a b 1 limit

    go : ((v.found ≡ together) × ((q : ℕ) → q < 1 + limit → Holds c q a b))
        ⊎ ((r : ℕ) × (v.found ≡ apart r) × (suc r ≤ 1 + limit) × (¬ Holds c r a b) × ((q : ℕ) → q < r → Holds c q a b)) → Walks s i j limit
    go (inl x) = record {
      apart_iff = λ r. ((λ e. absurd (apart_not r (sym e ∙ x.0))), (λ y. absurd (y.1 (x.1 r (omega (arith, y.0))))));
      together_iff = ((λ _. x.1 limit (omega arith)), (λ _. x.0));
    }
    go (inr x) = record {
      apart_iff = λ r. ((λ e. let z : x.0 ≡ r = cc x.1 in rw z at (rest x)), (λ y. x.1 ∙ ap apart (least r y (dec_lt r x.0) (dec_lt x.0 r))));
      together_iff = ((λ e. absurd (apart_not x.0 (sym x.1 ∙ e))), (λ h. absurd (x.3 (Holds_less c x.0 limit a b (omega (arith, x.2)) h))));
    }
      where
        rest : (r : ℕ) × (v.found ≡ apart r) × (suc r ≤ 1 + limit) × (¬ Holds c r a b) × ((q : ℕ) → q < r → Holds c q a b)
            → (x.0 ≤ limit) × (¬ Holds c x.0 a b) × ((q : ℕ) → q < x.0 → Holds c q a b)
        rest _ = (omega (arith, x.2), x.3, x.4)

        least : (r : ℕ) → (r ≤ limit) × (¬ Holds c r a b) × ((q : ℕ) → q < r → Holds c q a b) → Dec (r < x.0) → Dec (x.0 < r) → x.0 ≡ r
        least r y (yes l) g = absurd (y.1 (x.4 r l))
        least r y (no l) (yes g) = absurd (x.3 (y.2 x.0 g))
        least r y (no l) (no g) = omega arith
