-- n sweeps over the kinds find every norm: a kind that sweep d improves has d kinds with smaller values before it.
use mathlib.Core.Bool.{Bool, true, false}
use mathlib.Core.List.{List, [], ◌∷◌, Memᴰ}
use mathlib.Core.Logic.{◌⊎◌, inl, inr}
use mathlib.Core.Path.{◌≡◌, refl, ◌∙◌, ap}
use Prim.Native.Nat.{ℕ, zero, suc, ◌+◌, ◌≤◌, ◌<◌, min}
use native.Mathlib.Decide.{dec_lt}
use native.Mathlib.Nat.{mul-le-mul_right}
use native.Mathlib.Omega.{arith}
use lib.Dec.{eqb}
use Rattle.model.specs.Finite.{both}
use Rattle.model.specs.Field.{Field, bit, weigh, at}
use Rattle.model.specs.Card.{Line, Card, On}
use Rattle.model.specs.Norm.{ready, sooner, best, sweeps, card_norm}
use Rattle.theory.proofs.Search.{dec_and, dec_implies, some_below}
use Rattle.theory.proofs.Field.{bit_yes, bit_no, weigh_part, weigh_mono, weigh_less, weigh_ones}
use Rattle.theory.proofs.Exec.{Tells, tells_and, tells_implies, tells_lt, tells_eq}
use Rattle.theory.proofs.Lists.{get_d_from, get_d_past, tells_below}

-- Every kind of the field has a value.
abbrev pub Ready : ℕ → (ℕ → ℕ) → Field → Type 0
Ready n w a = (k : ℕ) → k < n → 0 < a k → 0 < w k

pub tells_ready : (n : ℕ) (w : ℕ → ℕ) (a : Field) → Tells (ready n w a) (Ready n w a)
unfolding ready
tells_ready n w a = tells_below _ _ (λ k. tells_implies _ _ (tells_lt 0 (a k)) (tells_lt 0 (w k))) n

module _ (n : ℕ) (w : ℕ → ℕ) (k : ℕ) where
  abbrev Usable : Line → Type 0
  Usable l = (l.kind ≡ k) × Ready n w l.left

  tells_usable : (l : Line) → Tells (both (eqb l.kind k) (ready n w l.left)) (Usable l)
  tells_usable l = tells_and _ _ (tells_eq l.kind k) (tells_ready n w l.left)

  sooner_left : (x y : ℕ) → 0 < x → (0 < sooner x y) × (sooner x y ≤ x) × (0 < y → sooner x y ≤ y) × ((sooner x y ≡ x) ⊎ ((0 < y) × (sooner x y ≡ y)))
  sooner_left x y h = go (eqb y 0) (tells_eq y 0)
    where
      Goal : ℕ → Type 0
      Goal z = (0 < z) × (z ≤ x) × (0 < y → z ≤ y) × ((z ≡ x) ⊎ ((0 < y) × (z ≡ y)))

      least : Dec (x < y) → (0 < y) → Goal (min x y)
      least (yes q) p = (omega arith, omega arith, (λ _. omega arith), inl (omega arith))
      least (no q) p = (omega arith, omega arith, (λ _. omega arith), inr (p, omega arith))

      go : (b : Bool) → Tells b (y ≡ 0) → Goal (elim b as (λ _. ℕ) [ true ↦ x | false ↦ min x y ])
      go true t = let e = t.fact tt in (h, omega arith, (λ p. absurd (omega arith)), inl refl)
      go false t = least (dec_lt x y) (pos (dec_lt 0 y))
        where
          pos : Dec (0 < y) → 0 < y
          pos (yes p) = p
          pos (no p) = absurd (t.test (omega arith))

  pub best_sound : (ls : List Line) → 0 < best n w k ls → (l : Line) × Memᴰ l ls × Usable l × (best n w k ls ≡ suc (weigh n w l.left))
  unfolding best
  best_sound [] h = absurd (omega arith)
  best_sound (x ∷ xs) h = go (both (eqb x.kind k) (ready n w x.left)) (tells_usable x) (best_sound xs) h
    where
      x_value : ℕ
      x_value = suc (weigh n w x.left)

      rest : ℕ
      rest = best n w k xs

      Goal : ℕ → Type 0
      Goal v = (l : Line) × Memᴰ l (x ∷ xs) × Usable l × (v ≡ suc (weigh n w l.left))

      go : (b : Bool) → Tells b (Usable x) → (0 < rest → (l : Line) × Memᴰ l xs × Usable l × (rest ≡ suc (weigh n w l.left)))
          → 0 < (elim b as (λ _. ℕ) [ true ↦ sooner x_value rest | false ↦ rest ]) → Goal (elim b as (λ _. ℕ) [ true ↦ sooner x_value rest | false ↦ rest ])
      go true t r q = pick (sooner_left x_value rest (omega arith)).3
        where
          pick : (sooner x_value rest ≡ x_value) ⊎ ((0 < rest) × (sooner x_value rest ≡ rest)) → Goal (sooner x_value rest)
          pick (inl e) = (x, Memᴰ.head refl, t.fact tt, e)
          pick (inr e) = let u = r e.0 in (u.0, Memᴰ.tail u.1, u.2, e.1 ∙ u.3)
      go false t r q = let u = r q in (u.0, Memᴰ.tail u.1, u.2, u.3)

  pub best_least : (l : Line) {ls : List Line} → Memᴰ l ls → Usable l → (0 < best n w k ls) × (best n w k ls ≤ suc (weigh n w l.left))
  unfolding best
  best_least l (Memᴰ.head {x = x} {xs = xs} e) u = go (both (eqb x.kind k) (ready n w x.left)) (tells_usable x)
    where
      go : (b : Bool) → Tells b (Usable x)
          → (0 < (elim b as (λ _. ℕ) [ true ↦ sooner (suc (weigh n w x.left)) (best n w k xs) | false ↦ best n w k xs ]))
          × ((elim b as (λ _. ℕ) [ true ↦ sooner (suc (weigh n w x.left)) (best n w k xs) | false ↦ best n w k xs ]) ≤ suc (weigh n w l.left))
      go true t = let s = sooner_left (suc (weigh n w x.left)) (best n w k xs) (omega arith) in (s.0, rw e s.1)
      go false t = absurd (t.test (rw e at u))
  best_least l (Memᴰ.tail {x = x} {xs = xs} m) u = go (both (eqb x.kind k) (ready n w x.left)) (best_least l m u)
    where
      go : (b : Bool) → (0 < best n w k xs) × (best n w k xs ≤ suc (weigh n w l.left))
          → (0 < (elim b as (λ _. ℕ) [ true ↦ sooner (suc (weigh n w x.left)) (best n w k xs) | false ↦ best n w k xs ]))
          × ((elim b as (λ _. ℕ) [ true ↦ sooner (suc (weigh n w x.left)) (best n w k xs) | false ↦ best n w k xs ]) ≤ suc (weigh n w l.left))
      go true r = let s = sooner_left (suc (weigh n w x.left)) (best n w k xs) (omega arith) in (s.0, omega (arith, s.2 r.0, r.1))
      go false r = r

module _ (c : Card) where
  -- The value of a kind after d sweeps.
  abbrev value : ℕ → ℕ → ℕ
  value d k = at (sweeps c d) k

  value_next : (d k : ℕ) → k < c.kinds → value (suc d) k ≡ best c.kinds (value d) k c.lines
  unfolding sweeps
  value_next d k h = get_d_from (λ k. best c.kinds (value d) k c.lines) 0 c.kinds k 0 h ∙ ap (λ i. best c.kinds (value d) i c.lines) (zero_left k)
    where
      zero_left : (k : ℕ) → 0 + k ≡ k
      zero_left k = omega arith

  pub value_kind : (d k : ℕ) → 0 < value d k → k < c.kinds
  unfolding sweeps
  value_kind zero k h = absurd (omega arith)
  value_kind (suc d) k h = go (dec_lt k c.kinds)
    where
      go : Dec (k < c.kinds) → k < c.kinds
      go (yes q) = q
      go (no q) = absurd (omega (arith, get_d_past (λ k. best c.kinds (value d) k c.lines) 0 c.kinds k 0 (omega arith)))

  value_none : (k : ℕ) → value 0 k ≡ 0
  unfolding sweeps
  value_none k = refl

  -- A value once found only falls.
  falls : (d k : ℕ) → 0 < value d k → (0 < value (suc d) k) × (value (suc d) k ≤ value d k)
  falls zero k h = absurd (omega (arith, value_none k))
  falls (suc d) k h =
      let i = value_kind (suc d) k h in
      let e = value_next d k i in
      let s = best_sound c.kinds (value d) k c.lines (omega arith) in
      let l = s.0 in
      let u = best_least c.kinds (value (suc d)) k l s.1 (s.2.0, λ j p q. (falls d j (s.2.1 j p q)).0) in
      let m = weigh_mono c.kinds (value (suc d)) (value d) l.left (λ j p q. (falls d j (s.2.1 j p q)).1) in
      (omega (arith, u.0, value_next (suc d) k i), omega (arith, u.1, value_next (suc d) k i, s.3))

  -- Sweep d improves the kind.
  abbrev Changed : ℕ → ℕ → Type 0
  Changed d k = (0 < value (suc d) k) × (0 < value d k → value (suc d) k < value d k)

  dec_changed : (d k : ℕ) → Dec (Changed d k)
  dec_changed d k = dec_and (dec_lt 0 (value (suc d) k)) (dec_implies (dec_lt 0 (value d k)) (dec_lt (value (suc d) k) (value d k)))

  kept : (d k : ℕ) → ¬ Changed d k → 0 < value (suc d) k → (0 < value d k) × (value d k ≤ value (suc d) k)
  kept d k h p = go (dec_lt 0 (value d k)) (dec_lt (value (suc d) k) (value d k))
    where
      go : Dec (0 < value d k) → Dec (value (suc d) k < value d k) → (0 < value d k) × (value d k ≤ value (suc d) k)
      go (yes q) (no r) = (q, omega arith)
      go (yes q) (yes r) = absurd (h (p, λ _. r))
      go (no q) r = absurd (h (p, λ z. absurd (q z)))

  -- What a sweep improves, it improves through a kind that the sweep before improved, of a smaller value.
  chain : (d k : ℕ) → Changed (suc d) k → (j : ℕ) × (j < c.kinds) × Changed d j × (value (suc d) j < value (suc (suc d)) k)
  chain d k h = go (some_below (λ j. (0 < l.left j) × Changed d j) (λ j. dec_and (dec_lt 0 (l.left j)) (dec_changed d j)) c.kinds)
    where
      i : k < c.kinds
      i = value_kind (suc (suc d)) k h.0

      s : (l : Line) × Memᴰ l c.lines × Usable c.kinds (value (suc d)) k l × (best c.kinds (value (suc d)) k c.lines ≡ suc (weigh c.kinds (value (suc d)) l.left))
      s = best_sound c.kinds (value (suc d)) k c.lines (omega (arith, value_next (suc d) k i, h.0))

      l : Line
      l = s.0

      go : ((j : ℕ) × (j < c.kinds) × ((0 < l.left j) × Changed d j)) ⊎ ((j : ℕ) → j < c.kinds → ¬ ((0 < l.left j) × Changed d j))
          → (j : ℕ) × (j < c.kinds) × Changed d j × (value (suc d) j < value (suc (suc d)) k)
      go (inl (j, p, q)) =
          (j, p, q.1, omega (arith, weigh_part c.kinds (value (suc d)) l.left j p, mul-le-mul_right (value (suc d) j) q.0, s.3, value_next (suc d) k i))
      go (inr f) =
          let old : (j : ℕ) → j < c.kinds → 0 < l.left j → (0 < value d j) × (value d j ≤ value (suc d) j) =
          λ j p q. kept d j (λ t. f j p (q, t)) (s.2.1 j p q) in
          let u = best_least c.kinds (value d) k l s.1 (s.2.0, λ j p q. (old j p q).0) in
          let m = weigh_mono c.kinds (value d) (value (suc d)) l.left (λ j p q. (old j p q).1) in
          let e = value_next d k i in
          absurd (omega (arith, h.1 (omega (arith, u.0)), u.1, s.3, value_next (suc d) k i))

  abbrev Soon : ℕ → ℕ → ℕ → Type 0
  Soon d u j = (0 < value d j) × (value d j < u)

  soon : ℕ → ℕ → ℕ → ℕ
  soon d u j = bit (dec_and (dec_lt 0 (value d j)) (dec_lt (value d j) u))

  soon_yes : (d u j : ℕ) → Soon d u j → soon d u j ≡ 1
  unfolding soon
  soon_yes d u j h = bit_yes (dec_and (dec_lt 0 (value d j)) (dec_lt (value d j) u)) h

  soon_no : (d u j : ℕ) → ¬ Soon d u j → soon d u j ≡ 0
  unfolding soon
  soon_no d u j h = bit_no (dec_and (dec_lt 0 (value d j)) (dec_lt (value d j) u)) h

  soon_cases : (d u j : ℕ) → (Soon d u j × (soon d u j ≡ 1)) ⊎ (soon d u j ≡ 0)
  soon_cases d u j = go (dec_and (dec_lt 0 (value d j)) (dec_lt (value d j) u))
    where
      go : Dec (Soon d u j) → (Soon d u j × (soon d u j ≡ 1)) ⊎ (soon d u j ≡ 0)
      go (yes h) = inl (h, soon_yes d u j h)
      go (no h) = inr (soon_no d u j h)

  -- How many kinds have a value under u after d sweeps.
  count : ℕ → ℕ → ℕ
  count d u = weigh c.kinds (soon d u) (λ _. 1)

  many : (d k : ℕ) → Changed d k → d ≤ count d (value (suc d) k)
  unfolding count
  many zero k h = omega arith
  many (suc d) k h = go (chain d k h) (many d)
    where
      go : (j : ℕ) × (j < c.kinds) × Changed d j × (value (suc d) j < value (suc (suc d)) k) → ((j : ℕ) → Changed d j → d ≤ weigh c.kinds (soon d (value (suc d) j)) (λ _. 1))
          → suc d ≤ weigh c.kinds (soon (suc d) (value (suc (suc d)) k)) (λ _. 1)
      go (j, p, q, r) ih =
          let old = soon d (value (suc d) j) in
          let new = soon (suc d) (value (suc (suc d)) k) in
          let a : old j ≡ 0 = soon_no d (value (suc d) j) j (λ t. omega (arith, q.1 t.0, t.1)) in
          let b : new j ≡ 1 = soon_yes (suc d) (value (suc (suc d)) k) j (q.0, r) in
          omega (arith, ih j q, weigh_less c.kinds old new (λ _. 1) (λ i _ _. each i (soon_cases d (value (suc d) j) i)) j p (omega arith) (omega arith))
        where
          each : (i : ℕ) → (Soon d (value (suc d) j) i × (soon d (value (suc d) j) i ≡ 1)) ⊎ (soon d (value (suc d) j) i ≡ 0)
              → soon d (value (suc d) j) i ≤ soon (suc d) (value (suc (suc d)) k) i
          each i (inr z) = omega arith
          each i (inl t) =
              let f = falls d i t.0.0 in
              omega (arith, t.1, soon_yes (suc d) (value (suc (suc d)) k) i (f.0, omega (arith, f.1, t.0.1)))

  -- Of n kinds, n sweeps improve all that can be.
  pub done : (k : ℕ) → ¬ Changed c.kinds k
  unfolding count
  done k h =
      let n = c.kinds in
      let u = value (suc n) k in
      let z : soon n u k ≡ 0 = soon_no n u k (λ t. omega (arith, h.1 t.0, t.1)) in
      omega (
        arith,
        many n k h,
        weigh_less n (soon n u) (λ _. 1) (λ _. 1) (λ i _ _. small i (soon_cases n u i)) k (value_kind (suc n) k h.0) (omega arith) (omega arith),
        weigh_ones n (λ _. 1) (λ _. omega arith),
      )
    where
      small : (i : ℕ) → (Soon c.kinds (value (suc c.kinds) k) i × (soon c.kinds (value (suc c.kinds) k) i ≡ 1)) ⊎ (soon c.kinds (value (suc c.kinds) k) i ≡ 0)
          → soon c.kinds (value (suc c.kinds) k) i ≤ 1
      small i (inl t) = omega (arith, t.1)
      small i (inr t) = omega arith

  -- No line improves a norm.
  pub norm_settled : (l : Line) → On c l → l.kind < c.kinds → Ready c.kinds (card_norm c) l.left
      → (0 < card_norm c l.kind) × (card_norm c l.kind ≤ suc (weigh c.kinds (card_norm c) l.left))
  unfolding card_norm
  norm_settled l o i r =
      let u = best_least c.kinds (value c.kinds) l.kind l o (refl, r) in
      let e = value_next c.kinds l.kind i in
      let t = kept c.kinds l.kind (done l.kind) (omega (arith, u.0)) in
      (t.0, omega (arith, t.1, u.1))

  -- Each norm is attained by a line.
  pub norm_attained : (k : ℕ) → 0 < card_norm c k
      → (l : Line) × On c l × (l.kind ≡ k) × (card_norm c k ≡ suc (weigh c.kinds (card_norm c) l.left)) × Ready c.kinds (card_norm c) l.left
  unfolding card_norm
  norm_attained k h =
      let f = falls c.kinds k h in
      let t = kept c.kinds k (done k) f.0 in
      let e = value_next c.kinds k (value_kind c.kinds k h) in
      let s = best_sound c.kinds (value c.kinds) k c.lines (omega (arith, f.0)) in
      (s.0, s.1, s.2.0, omega (arith, s.3, f.1, t.1), s.2.1)

  pub norm_kind : (k : ℕ) → 0 < card_norm c k → k < c.kinds
  unfolding card_norm
  norm_kind k h = value_kind c.kinds k h
