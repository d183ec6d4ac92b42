-- The search finds the kinds that are reached: a turn that finds no new kind is the last, and each turn before it finds one.
use mathlib.Core.Bool.{Bool, true, false}
use mathlib.Core.List.{List, [], ◌∷◌, Memᴰ}
use mathlib.Core.Logic.{◌⊎◌, inl, inr}
use mathlib.Core.Path.{◌≡◌, refl, ap}
use Prim.Native.Nat.{ℕ, zero, suc, ◌+◌, ◌*◌, ◌≤◌, ◌<◌}
use native.Mathlib.Decide.{dec_lt}
use native.Mathlib.Omega.{arith}
use lib.Dec.{T, ltb}
use lib.ListN.{length, get_or}
use Rattle.model.specs.Finite.{both, either, any, keep, list_from, below}
use Rattle.model.specs.Field.{Field, weigh}
use Rattle.model.specs.Card.{Line, Card, On, Reached, held, leads, reaches, reached, reached_kinds, reached_count, reached_lines, fire}
use Rattle.theory.specs.Expansion.{Expands}
use Rattle.theory.specs.Meanings.{Reaches}
use Rattle.theory.proofs.Search.{dec_and, some_below}
use Rattle.theory.proofs.Field.{weigh_mono, weigh_less, weigh_ones}
use Rattle.theory.proofs.Moves.{expands_on}
use Rattle.theory.proofs.Decide.{list_finite}
use Rattle.theory.proofs.Exec.{Tells, tells_and, tells_lt, tells_any, keep_on, on_keep}
use Rattle.theory.proofs.Lists.{get_d_from, get_d_past, below_mem}
use Rattle.theory.specs.Terms.{OnReached, OfKinds}

pub tells_or : (b c : Bool) (A B : Type 0) → Tells b A → Tells c B → Tells (either b c) (A ⊎ B)
tells_or true c A B f g = record { fact = λ t. inl (f.fact tt); test = λ t. tt }
tells_or false c A B f g = record { fact = λ t. inr (g.fact t); test = side }
  where
    side : A ⊎ B → T c
    side (inl a) = absurd (f.test a)
    side (inr b) = g.test b

pub tells_self : (b : Bool) → Tells b (T b)
tells_self b = record { fact = λ t. t; test = λ t. t }

pub dec_tells : (b : Bool) {A : Type 0} → Tells b A → Dec A
dec_tells true f = yes (f.fact tt)
dec_tells false f = no (λ a. f.test a)

pub tells_same : (b d : Bool) {A : Type 0} → Tells b A → Tells d A → b ≡ d
tells_same true true f g = refl
tells_same true false f g = absurd (g.test (f.fact tt))
tells_same false true f g = absurd (f.test (g.fact tt))
tells_same false false f g = refl

-- 1 for true.
unfoldable pub one : Bool → ℕ
one true = 1
one false = 0

pub one_yes : (b : Bool) → T b → one b ≡ 1
unfolding one
one_yes true t = refl
one_yes false t = absurd t

pub one_no : (b : Bool) → ¬ T b → one b ≡ 0
unfolding one
one_no true n = absurd (n tt)
one_no false n = refl

pub one_most : (b : Bool) → one b ≤ 1
unfolding one
one_most true = omega arith
one_most false = omega arith

one_mono : (b d : Bool) → (T b → T d) → one b ≤ one d
unfolding one
one_mono true true f = omega arith
one_mono true false f = absurd (f tt)
one_mono false d f = omega arith

-- How many kinds below n pass.
abbrev pub tally : (ℕ → Bool) → ℕ → ℕ
tally p n = weigh n (λ k. one (p k)) (λ _. 1)

pub tally_keep : (p : ℕ → Bool) (n : ℕ) → length (keep p (below n)) ≡ tally p n
unfolding below keep list_from weigh one
tally_keep p n = let z : 0 + n ≡ n = omega arith in omega (arith, rw z at (part 0 n), none)
  where
    none : tally p 0 ≡ 0
    none = refl

    part : (i m : ℕ) → length (keep p (list_from (λ j. j) i m)) + tally p i ≡ tally p (i + m)
    part i zero = let z : i + 0 ≡ i = omega arith in rw z (omega arith)
    part i (suc m) = let z : i + suc m ≡ suc i + m = omega arith in rw z (go (p i) refl (part (suc i) m))
      where
        go : (b : Bool) → p i ≡ b → length (keep p (list_from (λ j. j) (suc i) m)) + (tally p i + 1 * one (p i)) ≡ tally p (suc i + m)
            → length {A = ℕ} (elim b as (λ _. List ℕ) [ true ↦ i ∷ keep p (list_from (λ j. j) (suc i) m) | false ↦ keep p (list_from (λ j. j) (suc i) m) ]) + tally p i ≡ tally p (suc i + m)
        go true e r = omega (arith, r, ap one e)
        go false e r = omega (arith, r, ap one e)

-- Fields of reached kinds go on so, and use the lines of reached kinds alone.
module _ (c : Card) where
  pub fire_kinds : (l : Line) (a : Field) → OnReached c l → OfKinds c a → OfKinds c (fire l a)
  fire_kinds l a o f k h = go (dec_lt 0 (a k))
    where
      go : Dec (0 < a k) → Reached c k
      go (yes p) = f k p
      go (no p) = let q : 0 < l.left k = omega arith in leads l o.0 o.1 q

  module _ {ℓ} (R : Field → Field → Type ℓ) (a b : Field) (u : OfKinds c a) (v : OfKinds c b) where
    pub all_expands : Expands (OnReached c) R a b → Expands (On c) R a b
    all_expands = expands_on (OnReached c) (On c) R a b (λ l o h. (o, u l.kind h)) (λ l o h. (o, v l.kind h)) (λ l o _. o.0) (λ l o _. o.0)

    pub expands_reached : Expands (On c) R a b → Expands (OnReached c) R a b
    expands_reached = expands_on (On c) (OnReached c) R a b (λ l o _. o.0) (λ l o _. o.0) (λ l o h. (o, u l.kind h)) (λ l o h. (o, v l.kind h))

module _ (c : Card) where
  -- Kind k is found in d turns.
  abbrev got : ℕ → ℕ → Bool
  got d k = get_or (reaches c d) k false

  got_kind : (d k : ℕ) → T (got d k) → k < c.kinds
  unfolding reaches
  got_kind zero k h = go (dec_lt k c.kinds)
    where
      go : Dec (k < c.kinds) → k < c.kinds
      go (yes q) = q
      go (no q) = absurd (rw (get_d_past (λ k. any (λ a. ltb 0 (a k)) c.fields) 0 c.kinds k false (omega arith)) at h)
  got_kind (suc d) k h = go (dec_lt k c.kinds)
    where
      go : Dec (k < c.kinds) → k < c.kinds
      go (yes q) = q
      go (no q) = absurd (rw (get_d_past (λ k. either (got d k) (any (λ l. both (got d l.kind) (ltb 0 (l.left k))) c.lines)) 0 c.kinds k false (omega arith)) at h)

  Start : ℕ → Type 0
  Start k = (a : Field) × Memᴰ a c.fields × (0 < a k)

  tells_start : (k : ℕ) → k < c.kinds → Tells (got 0 k) (Start k)
  unfolding reaches Start
  tells_start k h =
      let z : 0 + k ≡ k = omega arith in
      rw (get_d_from (λ k. any (λ a. ltb 0 (a k)) c.fields) 0 c.kinds k false h, z) (tells_any _ (λ a. 0 < a k) (λ a. tells_lt 0 (a k)) c.fields)

  abbrev Step : ℕ → ℕ → Line → Type 0
  Step d k l = T (got d l.kind) × (0 < l.left k)

  tells_turn : (d k : ℕ) → k < c.kinds → Tells (got (suc d) k) (T (got d k) ⊎ ((l : Line) × On c l × Step d k l))
  unfolding reaches
  tells_turn d k h =
      let z : 0 + k ≡ k = omega arith in
      rw (get_d_from (λ k. either (got d k) (any (λ l. both (got d l.kind) (ltb 0 (l.left k))) c.lines)) 0 c.kinds k false h, z)
      (tells_or _ _ (T (got d k)) ((l : Line) × On c l × Step d k l) (tells_self (got d k))
      (tells_any _ (Step d k) (λ l. tells_and _ _ (tells_self (got d l.kind)) (tells_lt 0 (l.left k))) c.lines))

  got_sound : (d k : ℕ) → T (got d k) → Reached c k
  unfolding Start
  got_sound zero k t = let u = (tells_start k (got_kind 0 k t)).fact t in held u.0 u.1 u.2
  got_sound (suc d) k t = go ((tells_turn d k (got_kind (suc d) k t)).fact t) (got_sound d)
    where
      go : T (got d k) ⊎ ((l : Line) × On c l × Step d k l) → ((j : ℕ) → T (got d j) → Reached c j) → Reached c k
      go (inl u) f = f k u
      go (inr u) f = leads u.0 u.1 (f u.0.kind u.2.0) u.2.1

  got_more : (d k : ℕ) → T (got d k) → T (got (suc d) k)
  got_more d k t = (tells_turn d k (got_kind d k t)).test (inl t)

  got_later : (d k : ℕ) → T (got 0 k) → T (got d k)
  got_later zero k t = t
  got_later (suc d) k t = got_more d k (got_later d k t)

  module _ (entered : (a : Field) → Memᴰ a c.fields → (k : ℕ) → 0 < a k → k < c.kinds) (left : (l : Line) → On c l → (k : ℕ) → 0 < l.left k → k < c.kinds) where
    abbrev Closed : ℕ → Type 0
    Closed d = (l : Line) → On c l → (k : ℕ) → Step d k l → T (got d k)

    closed_next : (d : ℕ) → Closed d → Closed (suc d)
    closed_next d C l o k s = got_more d k (C l o k (back ((tells_turn d l.kind (got_kind (suc d) l.kind s.0)).fact s.0), s.1))
      where
        back : T (got d l.kind) ⊎ ((m : Line) × On c m × Step d l.kind m) → T (got d l.kind)
        back (inl t) = t
        back (inr u) = C u.0 u.1 l.kind u.2

    -- A line of a kind that is found leaves one that is not.
    abbrev New : ℕ → Line → Type 0
    New d l = (k : ℕ) × (k < c.kinds) × (Step d k l × (¬ T (got d k)))

    dec_new : (d : ℕ) (l : Line) → Dec (New d l)
    dec_new d l = go (some_below (λ k. Step d k l × (¬ T (got d k))) (λ k. dec_and (dec_and (dec_tells _ (tells_self (got d l.kind))) (dec_lt 0 (l.left k))) (not_got k)) c.kinds)
      where
        not_got : (k : ℕ) → Dec (¬ T (got d k))
        not_got k = flip (dec_tells _ (tells_self (got d k)))
          where
            flip : Dec (T (got d k)) → Dec (¬ T (got d k))
            flip (yes t) = no (λ n. n t)
            flip (no n) = yes n

        go : (New d l) ⊎ ((k : ℕ) → k < c.kinds → ¬ (Step d k l × (¬ T (got d k)))) → Dec (New d l)
        go (inl x) = yes x
        go (inr f) = no (λ x. f x.0 x.1 x.2)

    no_new : (d : ℕ) → ¬ ((l : Line) × On c l × New d l) → Closed d
    no_new d n l o k s = go (dec_tells _ (tells_self (got d k)))
      where
        go : Dec (T (got d k)) → T (got d k)
        go (yes t) = t
        go (no f) = absurd (n (l, o, (k, left l o k s.1, (s, f))))

    turns : (d : ℕ) → Closed d ⊎ (d ≤ tally (got d) c.kinds)
    turns zero = inr (omega arith)
    turns (suc d) = go (turns d) (list_finite c.lines (New d) (dec_new d))
      where
        go : Closed d ⊎ (d ≤ tally (got d) c.kinds) → Dec ((l : Line) × On c l × New d l) → Closed (suc d) ⊎ (suc d ≤ tally (got (suc d)) c.kinds)
        go (inl C) x = inl (closed_next d C)
        go (inr h) (no n) = inl (closed_next d (no_new d n))
        go (inr h) (yes (l, o, (k, i, (s, n)))) =
            let a : one (got d k) ≡ 0 = one_no (got d k) n in
            let b : one (got (suc d) k) ≡ 1 = one_yes (got (suc d) k) ((tells_turn d k i).test (inr (l, o, s))) in
            inr (omega (arith, weigh_less c.kinds (λ j. one (got d j)) (λ j. one (got (suc d) j)) (λ _. 1) (λ j _ _. one_mono (got d j) (got (suc d) j) (got_more d j)) k i (omega arith) (omega arith)))

    closed : Closed c.kinds
    closed = go (turns c.kinds)
      where
        go : Closed c.kinds ⊎ (c.kinds ≤ tally (got c.kinds) c.kinds) → Closed c.kinds
        go (inl C) = C
        go (inr h) = λ l o k s. full k (left l o k s.1) (dec_tells _ (tells_self (got c.kinds k)))
          where
            full : (k : ℕ) → k < c.kinds → Dec (T (got c.kinds k)) → T (got c.kinds k)
            full k i (yes t) = t
            full k i (no f) =
                let a : one (got c.kinds k) ≡ 0 = one_no (got c.kinds k) f in
                absurd (omega (
                  arith,
                  weigh_less c.kinds (λ j. one (got c.kinds j)) (λ _. 1) (λ _. 1) (λ j _ _. one_most (got c.kinds j)) k i (omega arith) (omega arith),
                  weigh_ones c.kinds (λ _. 1) (λ _. omega arith),
                ))

    got_all : (k : ℕ) → Reached c k → T (got c.kinds k)
    unfolding Start
    got_all k (held a m h) = got_later c.kinds k ((tells_start k (entered a m k h)).test (a, m, h))
    got_all k (leads l o r h) = closed l o k (got_all l.kind r, h)

    pub under : (k : ℕ) → Reached c k → k < c.kinds
    under k (held a m h) = entered a m k h
    under k (leads l o r h) = left l o k h

    pub tells_reached : (k : ℕ) → Tells (reached c k) (Reached c k)
    unfolding reached
    tells_reached k = record { fact = got_sound c.kinds k; test = got_all k }

    -- Any test that holds of the kinds that fields hold, goes on along the lines and holds of reached kinds alone is the search's.
    pub reached_only : (p : ℕ → Bool) → ((a : Field) → Memᴰ a c.fields → (k : ℕ) → 0 < a k → T (p k))
        → ((l : Line) → On c l → T (p l.kind) → (k : ℕ) → 0 < l.left k → T (p k)) → ((k : ℕ) → T (p k) → Reached c k) → (k : ℕ) → p k ≡ reached c k
    reached_only p start next sound k = tells_same (p k) (reached c k) (record { fact = sound k; test = all k }) (tells_reached k)
      where
        all : (k : ℕ) → Reached c k → T (p k)
        all k (held a m h) = start a m k h
        all k (leads l o r h) = next l o (all l.kind r) k h

    count_is : reached_count c ≡ tally (reached c) c.kinds
    unfolding reached_kinds
    count_is = tally_keep (reached c) c.kinds

    to_kinds : (k : ℕ) → Reached c k → Memᴰ k (reached_kinds c)
    unfolding reached_kinds
    to_kinds k r = on_keep _ (Reached c) tells_reached (below c.kinds) k (below_mem c.kinds k (under k r)) r

    from_kinds : (k : ℕ) → Memᴰ k (reached_kinds c) → Reached c k
    unfolding reached_kinds
    from_kinds k m = (keep_on _ (Reached c) tells_reached (below c.kinds) k m).1

    to_line : (l : Line) → OnReached c l → Memᴰ l (reached_lines c)
    unfolding reached_lines
    to_line l o = on_keep _ (λ l. Reached c l.kind) (λ l. tells_reached l.kind) c.lines l o.0 o.1

    from_line : (l : Line) → Memᴰ l (reached_lines c) → OnReached c l
    unfolding reached_lines
    from_line l m = keep_on _ (λ l. Reached c l.kind) (λ l. tells_reached l.kind) c.lines l m

    none_of : (xs : List ℕ) → length xs ≡ 0 → (k : ℕ) → ¬ Memᴰ k xs
    none_of [] e k m = elim m [ ]
    none_of (x ∷ xs) e k m = omega arith

    empty : (xs : List ℕ) → ((k : ℕ) → ¬ Memᴰ k xs) → length xs ≡ 0
    empty [] f = refl
    empty (x ∷ xs) f = absurd (f x (Memᴰ.head refl))

    pub reaches_all : Reaches c
    reaches_all = record {
      test_iff = λ k. ((tells_reached k).fact, (tells_reached k).test);
      under = under;
      kinds_iff = λ k. (from_kinds k, to_kinds k);
      lines_iff = λ l. (from_line l, to_line l);
      none_iff = ((λ e k r. none_of (reached_kinds c) e k (to_kinds k r)), (λ f. empty (reached_kinds c) (λ k m. f k (from_kinds k m))));
      count_most = omega (arith, count_is, weigh_mono c.kinds (λ k. one (reached c k)) (λ _. 1) (λ _. 1) (λ k _ _. one_most (reached c k)), weigh_ones c.kinds (λ _. 1) (λ _. omega arith));
    }
