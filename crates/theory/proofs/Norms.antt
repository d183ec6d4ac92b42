-- Norms from the lines alone: the fewest reads that clear a field, and what a norm finder has to show.
use mathlib.Core.Path.{◌≡◌, refl, ap, fun_ext}
use Prim.Native.Nat.{ℕ, zero, suc, ◌+◌, ◌≤◌, ◌<◌}
use native.Mathlib.Nat.{mul-le-mul_right}
use native.Mathlib.Decide.{dec_lt, ℕ_discrete}
use native.Mathlib.Omega.{arith}
use Rattle.model.specs.Field.{Field, none, ◌⊕◌, times, unit, weigh}
use Rattle.model.specs.Card.{Line, fire}
use Rattle.model.specs.Norm.{Clears}
use Rattle.theory.proofs.Field.{unit_same, unit_other, weigh_none, weigh_part, weigh_some, weigh_outer, weigh_tokens}
use Rattle.theory.proofs.Moves.{fire_left, weigh_fire}

module _ (L : Line → Type 0) where
  abbrev pub HasNorm : Field → Type 0
  HasNorm a = (r : ℕ) × Clears L r a

  pub clears_plus : (r t u : ℕ) (a b : Field) → u ≡ r + t → Clears L r a → Clears L t b → Clears L u (a ⊕ b)
  unfolding Clears
  clears_plus zero t u a b e p q =
      let d : t ≡ u = omega arith in
      let z : b ≡ a ⊕ b = fun_ext (λ j. rw p (omega arith)) in
      rw z at (rw d at q)
  clears_plus (suc r) t zero a b e p q = absurd (omega arith)
  clears_plus (suc r) t (suc u) a b e (l, o, h, p) q =
      (l, o, omega arith, rw (fire_left l a b h) (clears_plus r t u (fire l a) b (omega arith) p q))

  pub has_plus : (a b : Field) → HasNorm a → HasNorm b → HasNorm (a ⊕ b)
  has_plus a b p q = (p.0 + q.0, clears_plus p.0 q.0 (p.0 + q.0) a b refl p.1 q.1)

  has_none : HasNorm none
  unfolding Clears
  has_none = (0, refl)

  has_times : (c : ℕ) (a : Field) → HasNorm a → HasNorm (times c a)
  has_times zero a p = let e : times zero a ≡ none = fun_ext (λ j. omega arith) in rw e has_none
  has_times (suc c) a p =
      let e : times (suc c) a ≡ times c a ⊕ a = fun_ext (λ j. omega arith) in
      rw e (has_plus (times c a) a (has_times c a p) p)

  has_sum : (a : Field) (m : ℕ) → ((k : ℕ) → k < m → 0 < a k → HasNorm (unit k)) → HasNorm (λ j. weigh m (λ k. unit k j) a)
  unfolding weigh
  has_sum a zero h = has_none
  has_sum a (suc m) h =
      has_plus (λ j. weigh m (λ k. unit k j) a) (times (a m) (unit m)) (has_sum a m (λ k i. h k (omega arith))) (go (dec_lt 0 (a m)))
    where
      go : Dec (0 < a m) → HasNorm (times (a m) (unit m))
      go (yes p) = has_times (a m) (unit m) (h m (omega arith) p)
      go (no p) =
          let z : a m ≡ 0 = omega arith in
          let e : times (a m) (unit m) ≡ none = fun_ext (λ j. rw z (omega arith)) in
          rw e has_none

  -- A field of kinds below n that all can be cleared can be cleared.
  pub has_field : (n : ℕ) (a : Field) → ((k : ℕ) → 0 < a k → k < n) → ((k : ℕ) → 0 < a k → HasNorm (unit k)) → HasNorm a
  has_field n a f h =
      let e : (λ j. weigh n (λ k. unit k j) a) ≡ a = fun_ext (λ j. at j (dec_lt j n) (dec_lt 0 (a j))) in
      rw e at (has_sum a n (λ k _. h k))
    where
      at : (j : ℕ) → Dec (j < n) → Dec (0 < a j) → weigh n (λ k. unit k j) a ≡ a j
      at j (yes q) p = weigh_tokens n j a q
      at j (no q) (yes p) = absurd (q (f j p))
      at j (no q) (no p) = rw (weigh_outer n j a (omega arith)) (omega arith)

  -- A line whose kinds can be cleared clears its own kind.
  pub has_line : (l : Line) → L l → HasNorm l.left → HasNorm (unit l.kind)
  unfolding Clears
  has_line l o p =
      let d : l.left ≡ fire l (unit l.kind) = fun_ext (λ j. omega arith) in
      (suc p.0, (l, o, omega (arith, unit_same l.kind), rw d at p.1))

  -- A set of kinds that every line whose kinds it holds enters holds every kind that can be cleared.
  pub closed_clears : (K : ℕ → Type 0) → ((l : Line) → L l → ((j : ℕ) → 0 < l.left j → K j) → K l.kind)
      → (r : ℕ) (a : Field) → Clears L r a → (k : ℕ) → 0 < a k → K k
  unfolding Clears
  closed_clears K c zero a e k h = absurd (omega (arith, ap (λ (x : Field). x k) e))
  closed_clears K c (suc r) a (l, o, i, p) k h = go (closed_clears K c r (fire l a) p) (ℕ_discrete k l.kind)
    where
      go : ((j : ℕ) → 0 < fire l a j → K j) → Dec (k ≡ l.kind) → K k
      go f (yes e) = rw e (c l o (λ j q. f j (omega arith)))
      go f (no d) = f k (omega (arith, unit_other l.kind k d))

  module _ (n : ℕ) (w : ℕ → ℕ) where
    -- Where no line improves a weight, nothing is cleared in fewer reads than it weighs. (A weight cut off at a limit passes too.)
    pub clears_least : ((l : Line) → L l → (l.kind < n) × (w l.kind ≤ suc (weigh n w l.left)))
        → (r : ℕ) (a : Field) → Clears L r a → weigh n w a ≤ r
    unfolding Clears
    clears_least s zero a e = rw e (omega (arith, weigh_none n w))
    clears_least s (suc r) a (l, o, h, p) =
        let u = s l o in
        omega (arith, clears_least s r (fire l a) p, weigh_fire n w l a u.0 h, u.1)

    -- Where each weight up to the limit is attained by a line, a field that weighs so much is cleared in so many reads.
    pub clears_weight : (limit : ℕ) → ((k : ℕ) → k < n → 0 < w k)
        → ((k : ℕ) → k < n → w k ≤ limit → (l : Line) × L l × (l.kind ≡ k) × (w k ≡ suc (weigh n w l.left)) × ((j : ℕ) → 0 < l.left j → j < n))
        → (r : ℕ) (a : Field) → weigh n w a ≡ r → r ≤ limit → ((k : ℕ) → 0 < a k → k < n) → Clears L r a
    unfolding Clears
    clears_weight limit pos f zero a e i t = fun_ext (λ k. go k (dec_lt 0 (a k)))
      where
        go : (k : ℕ) → Dec (0 < a k) → a k ≡ 0
        go k (yes p) = absurd (omega (arith, weigh_part n w a k (t k p), mul-le-mul_right (w k) p, pos k (t k p)))
        go k (no p) = omega arith
    clears_weight limit pos f (suc r) a e i t =
        let s = weigh_some n w a (omega arith) in
        let k = s.0 in
        let l = f k s.1 (omega (arith, weigh_part n w a k s.1, mul-le-mul_right (w k) s.2)) in
        let h : 0 < a l.0.kind = rw l.2 s.2 in
        let v : w l.0.kind ≡ w k = rw l.2 in
        let u = weigh_fire n w l.0 a (rw l.2 s.1) h in
        (l.0, l.1, h, clears_weight limit pos f r (fire l.0 a) (omega (arith, l.3, v)) (omega arith) (λ j q. kinds l.0 l.4 j q (dec_lt 0 (a j))))
      where
        kinds : (l : Line) → ((j : ℕ) → 0 < l.left j → j < n) → (j : ℕ) → 0 < fire l a j → Dec (0 < a j) → j < n
        kinds l g j q (yes p) = t j p
        kinds l g j q (no p) = g j (omega arith)
