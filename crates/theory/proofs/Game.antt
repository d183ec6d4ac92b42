-- The round game, and how many rounds part a pair that a stage does not relate.
use mathlib.Core.Path.{◌≡◌, sym}
use Prim.Native.Nat.{ℕ, zero, suc, ◌+◌, ◌*◌, ◌≤◌, ◌<◌, min}
use native.Mathlib.Decide.{dec_lt, dec_le}
use native.Mathlib.Omega.{arith}
use Rattle.model.specs.Field.{Field}
use Rattle.model.specs.Card.{fire}
use Rattle.theory.specs.Expansion.{Simulates, Expands, flip, Bisimulation}
use Rattle.model.specs.Base.{rounds_for}
use Rattle.theory.proofs.Moves.{expands_mono, expands_sym}
use Rattle.theory.proofs.Normed.{Normed, norm, extra, Low, fire_low, low_fire, fire_slow, fire_gain, some_low, can_norm}
use Rattle.theory.proofs.Stages.{Alike, Next, down, level, Stage}

module _ (N : Normed) where
  -- The pair holds at r rounds of the game in which differing second weights part it at once. Where that weight is 0 it is the model's game.
  unfoldable pub FineHolds : ℕ → Field → Field → Type 0
  FineHolds zero a b = extra N a ≡ extra N b
  FineHolds (suc r) a b = (extra N a ≡ extra N b) × Expands N.on (FineHolds r) a b

  -- A bisimulation whose pairs share the second weight.
  unfoldable pub Fine {ℓ} : (Field → Field → Type ℓ) → Type ℓ
  Fine R = ((a b : Field) → R a b → extra N a ≡ extra N b) × Bisimulation N.on R

  pub holds_extra : (r : ℕ) (a b : Field) → FineHolds r a b → extra N a ≡ extra N b
  unfolding FineHolds
  holds_extra zero a b h = h
  holds_extra (suc r) a b h = h.0

  pub bisimilar_holds {ℓ} : (R : Field → Field → Type ℓ) → Fine R → (r : ℕ) (a b : Field) → R a b → FineHolds r a b
  unfolding FineHolds Fine
  bisimilar_holds R B zero a b p = B.0 a b p
  bisimilar_holds R B (suc r) a b p = (B.0 a b p, expands_mono N.on R (FineHolds r) (bisimilar_holds R B r) a b (B.1 a b p))

  pub holds_less : (r d : ℕ) (a b : Field) → r ≤ d → FineHolds d a b → FineHolds r a b
  unfolding FineHolds
  holds_less zero d a b i h = holds_extra d a b h
  holds_less (suc r) zero a b i h = absurd (omega arith)
  holds_less (suc r) (suc d) a b i h = (h.0, expands_mono N.on (FineHolds d) (FineHolds r) (λ x y. holds_less r d x y (omega arith)) a b h.1)

  pub holds_sym : (r : ℕ) (a b : Field) → FineHolds r a b → FineHolds r b a
  unfolding FineHolds
  holds_sym zero a b h = sym h
  holds_sym (suc r) a b h = (sym h.0, expands_sym N.on (FineHolds r) (FineHolds r) (holds_sym r) a b h.1)

  -- A field with no read is empty, so its partner is too.
  holds_empty : (r : ℕ) (a b : Field) → norm N a ≡ 0 → FineHolds (suc r) a b → norm N b ≤ norm N a
  unfolding FineHolds
  holds_empty r a b z h = go (dec_lt 0 (norm N b))
    where
      go : Dec (0 < norm N b) → norm N b ≤ norm N a
      go (no q) = omega arith
      go (yes q) =
          let l = some_low N b q in
          let m = h.1.1 l.0 l.1.0 l.2 in
          omega (arith, can_norm N m.line a m.on m.can)

  -- The first side walks to empty, and one more round shows that the other is no larger.
  pub holds_norm : (r : ℕ) (a b : Field) → norm N a ≤ r → FineHolds (suc r) a b → norm N b ≤ norm N a
  unfolding FineHolds
  holds_norm zero a b i h = holds_empty zero a b (omega arith) h
  holds_norm (suc r) a b i h = go (dec_lt 0 (norm N a)) (λ x y. holds_norm r x y)
    where
      go : Dec (0 < norm N a) → ((x y : Field) → norm N x ≤ r → FineHolds (suc r) x y → norm N y ≤ norm N x) → norm N b ≤ norm N a
      go (no q) f = holds_empty (suc r) a b (omega arith) h
      go (yes q) f =
          let l = some_low N a q in
          let m = h.1.0 l.0 l.1.0 l.2 in
          let d = fire_low N l.0 a l.1 l.2 in
          omega (arith, f (fire l.0 a) (fire m.line b) (omega arith) m.rel, fire_slow N m.line b m.on m.can)

  pub holds_eq : (r : ℕ) (a b : Field) → norm N a ≤ r → FineHolds (suc r) a b → norm N a ≡ norm N b
  holds_eq r a b i h =
      let p = holds_norm r a b i h in
      omega (arith, holds_norm r b a (omega arith) (holds_sym (suc r) a b h))

  even : (c : ℕ) (a b : Field) → FineHolds (norm N a + suc c) a b → norm N a ≡ norm N b
  even c a b h = holds_eq (norm N a + c) a b (omega arith) (holds_less (suc (norm N a + c)) (norm N a + suc c) a b (omega arith) h)

  turned : (c : ℕ) (a b : Field) → FineHolds (norm N a + suc c) a b → FineHolds (norm N b + suc c) b a
  turned c a b h = rw (← even c a b h) (holds_sym (norm N a + suc c) a b h)

  -- What holds at norm and c rounds more is in Q; then what holds at as many is one low read away from Q.
  module _ (Q : Field → Field → Type 0) (c : ℕ) (f : (x y : Field) → FineHolds (norm N x + suc c) x y → Q x y) where
    low_side : (a b : Field) → FineHolds (norm N a + suc c) a b → Simulates (Low N) Q a b
    unfolding FineHolds
    low_side a b h l o q =
        let d = fire_low N l a o q in
        let k = holds_less (suc (norm N (fire l a) + suc c)) (norm N a + suc c) a b (omega arith) h in
        let m = k.1.0 l o.0 q in
        let s = fire l a in
        let t = fire m.line b in
        let u = even c s t m.rel in
        let v = even c a b h in
        record { line = m.line; on = low_fire N m.line b m.on m.can (omega arith); can = m.can; same = m.same; rel = f s t m.rel }

    full_side : (a b : Field) → FineHolds (norm N a + suc c + suc N.g) a b → Simulates N.on Q a b
    unfolding FineHolds
    full_side a b h l o q =
        let d = fire_gain N l a o q in
        let k = holds_less (suc (norm N (fire l a) + suc c)) (norm N a + suc c + suc N.g) a b (omega arith) h in
        let m = k.1.0 l o q in
        record { line = m.line; on = m.on; can = m.can; same = m.same; rel = f (fire l a) (fire m.line b) m.rel }

  holds_next : (Q : Field → Field → Type 0) (c : ℕ) → ((x y : Field) → FineHolds (norm N x + suc c) x y → Q x y)
      → (a b : Field) → FineHolds (norm N a + suc (c + suc N.g)) a b → Next N Q a b
  holds_next Q c f a b h = (
    f a b (holds_less (norm N a + suc c) (norm N a + suc (c + suc N.g)) a b (omega arith) h),
    (
      full_side Q c f a b (holds_less (norm N a + suc c + suc N.g) (norm N a + suc (c + suc N.g)) a b (omega arith) h),
      full_side (flip Q) c (λ x y u. f y x (turned c x y u)) b a
          (holds_less (norm N b + suc c + suc N.g) (norm N b + suc (c + suc N.g)) b a (omega arith) (turned (c + suc N.g) a b h)),
    ),
  )

  holds_down : (P : Field → Field → Type 0) (c : ℕ) → ((x y : Field) → FineHolds (norm N x + suc c) x y → P x y)
      → (f : ℕ) (a b : Field) → FineHolds (norm N a + suc c) a b → down N P f a b
  unfolding down
  holds_down P c p zero a b h = p a b h
  holds_down P c p (suc f) a b h = (
    p a b h,
    (
      low_side (down N P f) c (λ x y. holds_down P c p f x y) a b h,
      low_side (flip (down N P f)) c (λ x y u. holds_down P c p f y x (turned c x y u)) b a (turned c a b h),
    ),
  )

  holds_level : (s : ℕ) (a b : Field) → FineHolds (norm N a + suc (s * suc N.g)) a b → level N s a b
  unfolding level
  holds_level zero a b h =
      holds_down (Alike N) (zero * suc N.g) (λ x y u. (even (zero * suc N.g) x y u, holds_extra _ x y u)) (norm N a) a b h
  holds_level (suc s) a b h =
      let c = s * suc N.g in
      holds_down (Next N (level N s)) (c + suc N.g) (holds_next (level N s) c (holds_level s)) (norm N a) a b
      (holds_less (norm N a + suc (c + suc N.g)) (norm N a + suc (suc s * suc N.g)) a b (omega arith) h)

  -- The rounds that part a pair which stage s does not relate.
  unfoldable pub rounds : ℕ → Field → Field → ℕ
  rounds s a b = rounds_for (min (norm N a) (norm N b)) N.g s

  smaller : (a b : Field) → FineHolds (suc (min (norm N a) (norm N b))) a b → norm N a ≡ norm N b
  smaller a b h = go (dec_le (norm N a) (norm N b))
    where
      go : Dec (norm N a ≤ norm N b) → norm N a ≡ norm N b
      go (yes p) = holds_eq (min (norm N a) (norm N b)) a b (omega arith) h
      go (no p) = sym (holds_eq (min (norm N a) (norm N b)) b a (omega arith) (holds_sym (suc (min (norm N a) (norm N b))) a b h))

  pub holds_stage : (s : ℕ) (a b : Field) → FineHolds (rounds s a b) a b → Stage N s a b
  unfolding Stage rounds rounds_for
  holds_stage zero a b h =
      let m = min (norm N a) (norm N b) in
      (smaller a b (holds_less (suc m) (m + 1) a b (omega arith) h), holds_extra _ a b h)
  holds_stage (suc s) a b h =
      let m = min (norm N a) (norm N b) in
      let e = smaller a b (holds_less (suc m) (m + 1 + s * (N.g + 1)) a b (omega arith) h) in
      holds_level s a b (holds_less (norm N a + suc (s * suc N.g)) (m + 1 + s * (N.g + 1)) a b (omega arith) h)

  -- Demand 3's number: what stage s does not relate is parted within these rounds.
  pub parted : (s : ℕ) (a b : Field) → ¬ Stage N s a b → ¬ FineHolds (rounds s a b) a b
  parted s a b n h = n (holds_stage s a b h)

  -- A bisimulation lies in every stage.
  pub bisimilar_stage {ℓ} : (R : Field → Field → Type ℓ) → Fine R → (s : ℕ) (a b : Field) → R a b → Stage N s a b
  bisimilar_stage R B s a b p = holds_stage s a b (bisimilar_holds R B (rounds s a b) a b p)
