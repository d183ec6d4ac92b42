-- Fields: sums, one token, weights that add up.
-- Assumes nothing.
use mathlib.Core.Path.{◌≡◌, refl}
use Prim.Native.Nat.{ℕ, zero, suc, ◌+◌, ◌*◌, ◌≤◌, ◌<◌}
use native.Mathlib.Nat.{mul-zero, zero-mul, mul-le-mul_left, mul-le-mul_right}
use native.Mathlib.Numerals.{add-one}
use native.Mathlib.Decide.{ℕ_discrete, dec_lt}
use native.Mathlib.Omega.{arith}
use Rattle.model.specs.Field.{weigh_from, Field, none, ◌⊕◌, bit, unit, weigh}

pub bit_yes : {A : Type 0} (d : Dec A) → A → bit d ≡ 1
unfolding bit
bit_yes (yes _) a = refl
bit_yes (no h) a = absurd (h a)

pub bit_no : {A : Type 0} (d : Dec A) → ¬ A → bit d ≡ 0
unfolding bit
bit_no (yes a) h = absurd (h a)
bit_no (no _) h = refl

pub unit_same : (k : ℕ) → unit k k ≡ 1
unfolding unit
unit_same k = bit_yes (ℕ_discrete k k) refl

pub unit_other : (k j : ℕ) → ¬ (j ≡ k) → unit k j ≡ 0
unfolding unit
unit_other k j h = bit_no (ℕ_discrete j k) h

pub unit_le : (a : Field) (k j : ℕ) → 0 < a k → unit k j ≤ a j
unit_le a k j h = go (ℕ_discrete j k)
  where
    go : Dec (j ≡ k) → unit k j ≤ a j
    go (yes e) = rw e (omega (arith, unit_same k))
    go (no d) = omega (arith, unit_other k j d)

pub weigh_plus : (n : ℕ) (w : ℕ → ℕ) (a b : Field) → weigh n w (a ⊕ b) ≡ weigh n w a + weigh n w b
unfolding weigh
weigh_plus zero w a b = refl
weigh_plus (suc m) w a b = omega (arith, weigh_plus m w a b)

pub weigh_same : (n : ℕ) (w : ℕ → ℕ) (a b : Field) → ((k : ℕ) → k < n → a k ≡ b k) → weigh n w a ≡ weigh n w b
unfolding weigh
weigh_same zero w a b h = refl
weigh_same (suc m) w a b h = rw (h m (omega arith)) (omega (arith, weigh_same m w a b (λ k l. h k (omega arith))))

-- What each kind weighs is the same.
pub weigh_each : (n : ℕ) (w : ℕ → ℕ) (a b : Field) → ((k : ℕ) → a k * w k ≡ b k * w k) → weigh n w a ≡ weigh n w b
unfolding weigh
weigh_each zero w a b h = refl
weigh_each (suc m) w a b h = omega (arith, weigh_each m w a b h, h m)

pub weigh_none : (n : ℕ) (w : ℕ → ℕ) → weigh n w none ≡ 0
unfolding weigh
weigh_none zero w = refl
weigh_none (suc m) w = omega (arith, weigh_none m w)

pub weigh_unit : (n : ℕ) (w : ℕ → ℕ) (k : ℕ) → k < n → weigh n w (unit k) ≡ w k
unfolding weigh
weigh_unit zero w k h = absurd (omega arith)
weigh_unit (suc m) w k h = go (ℕ_discrete m k) (weigh_unit m w k)
  where
    go : Dec (m ≡ k) → (k < m → weigh m w (unit k) ≡ w k) → weigh m w (unit k) + unit k m * w m ≡ w k
    go (yes e) below =
        let z : weigh m w (unit k) ≡ weigh m w none = weigh_same m w (unit k) none (λ j l. unit_other k j (λ q. omega arith)) in
        rw (z, weigh_none m w, e, unit_same k) (omega arith)
    go (no d) below = rw (unit_other k m d, below (omega arith)) (omega arith)

-- What one kind weighs is part of the whole.
pub weigh_part : (n : ℕ) (w : ℕ → ℕ) (a : Field) (k : ℕ) → k < n → a k * w k ≤ weigh n w a
unfolding weigh
weigh_part zero w a k h = absurd (omega arith)
weigh_part (suc m) w a k h = go (ℕ_discrete m k) (weigh_part m w a k)
  where
    go : Dec (m ≡ k) → (k < m → a k * w k ≤ weigh m w a) → a k * w k ≤ weigh m w a + a m * w m
    go (yes e) below = rw e (omega arith)
    go (no d) below = omega (arith, below (omega arith))

-- What weighs something has a kind that does.
pub weigh_some : (n : ℕ) (w : ℕ → ℕ) (a : Field) → 0 < weigh n w a → (k : ℕ) × (k < n) × (0 < a k) × (0 < w k)
unfolding weigh
weigh_some zero w a h = absurd (omega arith)
weigh_some (suc m) w a h = go (dec_lt 0 (a m)) (dec_lt 0 (w m)) (weigh_some m w a)
  where
    Goal : Type 0
    Goal = (k : ℕ) × (k < suc m) × (0 < a k) × (0 < w k)

    below : (0 < weigh m w a → (k : ℕ) × (k < m) × (0 < a k) × (0 < w k)) → a m * w m ≡ 0 → Goal
    below f e = let r = f (omega arith) in (r.0, omega (arith, r.1), r.2, r.3)

    go : Dec (0 < a m) → Dec (0 < w m) → (0 < weigh m w a → (k : ℕ) × (k < m) × (0 < a k) × (0 < w k)) → Goal
    go (yes p) (yes q) f = (m, omega arith, p, q)
    go (yes p) (no q) f = below f (let z : w m ≡ 0 = omega arith in rw z (mul-zero (a m)))
    go (no p) q f = below f (let z : a m ≡ 0 = omega arith in rw z (zero-mul (w m)))

-- Weights count only where the field has tokens.
pub weigh_weights : (n : ℕ) (w v : ℕ → ℕ) (a : Field) → ((k : ℕ) → k < n → 0 < a k → w k ≡ v k) → weigh n w a ≡ weigh n v a
unfolding weigh
weigh_weights zero w v a h = refl
weigh_weights (suc m) w v a h = go (dec_lt 0 (a m)) (weigh_weights m w v a (λ k l. h k (omega arith)))
  where
    go : Dec (0 < a m) → weigh m w a ≡ weigh m v a → weigh m w a + a m * w m ≡ weigh m v a + a m * v m
    go (yes p) e = rw (e, h m (omega arith) p)
    go (no p) e = let z : a m ≡ 0 = omega arith in rw (e, z) (omega arith)

-- A field is the sum of its tokens.
pub weigh_outer : (n j : ℕ) (a : Field) → n ≤ j → weigh n (λ k. unit k j) a ≡ 0
unfolding weigh
weigh_outer zero j a h = refl
weigh_outer (suc m) j a h = rw (weigh_outer m j a (omega arith), unit_other m j (λ e. omega arith)) (omega arith)

pub weigh_tokens : (n j : ℕ) (a : Field) → j < n → weigh n (λ k. unit k j) a ≡ a j
unfolding weigh
weigh_tokens zero j a h = absurd (omega arith)
weigh_tokens (suc m) j a h = go (ℕ_discrete j m) (weigh_tokens m j a)
  where
    go : Dec (j ≡ m) → (j < m → weigh m (λ k. unit k j) a ≡ a j) → weigh m (λ k. unit k j) a + a m * unit m j ≡ a j
    go (yes e) f = rw (weigh_outer m j a (omega arith), e, unit_same m) (omega arith)
    go (no d) f = rw (f (omega arith), unit_other m j d) (omega arith)

pub weigh_mono : (n : ℕ) (w v : ℕ → ℕ) (a : Field) → ((k : ℕ) → k < n → 0 < a k → w k ≤ v k) → weigh n w a ≤ weigh n v a
unfolding weigh
weigh_mono zero w v a h = omega arith
weigh_mono (suc m) w v a h = go (dec_lt 0 (a m)) (weigh_mono m w v a (λ k l. h k (omega arith)))
  where
    go : Dec (0 < a m) → weigh m w a ≤ weigh m v a → weigh m w a + a m * w m ≤ weigh m v a + a m * v m
    go (yes p) e = omega (arith, mul-le-mul_left (a m) (h m (omega arith) p))
    go (no p) e = let z : a m ≡ 0 = omega arith in rw z (omega arith)

pub weigh_less : (n : ℕ) (w v : ℕ → ℕ) (a : Field) → ((k : ℕ) → k < n → 0 < a k → w k ≤ v k)
    → (j : ℕ) → j < n → 0 < a j → w j < v j → weigh n w a < weigh n v a
unfolding weigh
weigh_less zero w v a h j i p q = absurd (omega arith)
weigh_less (suc m) w v a h j i p q = go (dec_lt 0 (a m)) (ℕ_discrete j m) (weigh_mono m w v a (λ k l. h k (omega arith))) (weigh_less m w v a (λ k l. h k (omega arith)) j)
  where
    part : Dec (0 < a m) → a m * w m ≤ a m * v m
    part (yes u) = mul-le-mul_left (a m) (h m (omega arith) u)
    part (no u) = let z : a m ≡ 0 = omega arith in rw z (omega arith)

    go : Dec (0 < a m) → Dec (j ≡ m) → weigh m w a ≤ weigh m v a → (j < m → 0 < a j → w j < v j → weigh m w a < weigh m v a)
        → weigh m w a + a m * w m < weigh m v a + a m * v m
    go d (no e) u f = omega (arith, f (omega arith) p q, part d)
    go d (yes e) u f =
        let r : suc (w m) ≤ v m = rw e at q in
        let s : 0 < a m = rw e at p in
        omega (arith, mul-le-mul_left (a m) r)

-- Counts of 1 each, or as many as another field's weights.
pub weigh_swap : (n : ℕ) (a w : ℕ → ℕ) → ((k : ℕ) → a k ≤ w k) → weigh n (λ _. 1) a ≤ weigh n w (λ _. 1)
unfolding weigh
weigh_swap zero a w h = omega arith
weigh_swap (suc m) a w h = omega (arith, weigh_swap m a w h, h m)

pub weigh_ones : (n : ℕ) (a : Field) → ((k : ℕ) → a k ≤ 1) → weigh n (λ _. 1) a ≤ n
unfolding weigh
weigh_ones zero a h = omega arith
weigh_ones (suc m) a h = omega (arith, weigh_ones m a h, h m)

-- One step of a loop over the kinds.
pub weigh_next : (i : ℕ) (w : ℕ → ℕ) (a : Field) → weigh (i + 1) w a ≡ weigh i w a + a i * w i
unfolding weigh
weigh_next i w a = rw add-one

pub product_bound : (x y : ℕ) → x ≤ 65536 → y ≤ 4294967296 → x * y ≤ 281474976710656
product_bound x y p q = omega (arith, mul-le-mul_right y p, mul-le-mul_left 65536 q)

-- "the norm of its first kind's tokens plus the norm of the rest": from the front it is the same.
pub weigh_from_lem : (i m : ℕ) (w : ℕ → ℕ) (a : Field) → weigh i w a + weigh_from i m w a ≡ weigh (i + m) w a
unfolding weigh weigh_from
weigh_from_lem i zero w a = let z : i + 0 ≡ i = omega arith in rw z (omega arith)
weigh_from_lem i (suc m) w a = let z : i + suc m ≡ suc i + m = omega arith in rw z (omega (arith, weigh_from_lem (suc i) m w a))

pub weigh_front : (n : ℕ) (w : ℕ → ℕ) (a : Field) → weigh n w a ≡ weigh_from 0 n w a
unfolding weigh
weigh_front n w a = let z : 0 + n ≡ n = omega arith in omega (arith, rw z at (weigh_from_lem 0 n w a))

-- A sum over kinds that are not there is a sum over those that are.
pub weigh_past : (n m : ℕ) (w : ℕ → ℕ) (a : Field) → m ≤ n → ((k : ℕ) → m ≤ k → a k ≡ 0) → weigh n w a ≡ weigh m w a
unfolding weigh
weigh_past zero m w a l h = let z : m ≡ 0 = omega arith in rw z refl
weigh_past (suc n) m w a l h = go (ℕ_discrete m (suc n)) (λ u. weigh_past n m w a u h)
  where
    go : Dec (m ≡ suc n) → (m ≤ n → weigh n w a ≡ weigh m w a) → weigh (suc n) w a ≡ weigh m w a
    go (yes z) f = rw z refl
    go (no d) f = rw (h n (omega arith)) (omega (arith, f (omega arith)))
