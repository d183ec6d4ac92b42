-- Lines, moves, and expansion over any choice of lines (all of a card's, or those that lower the norm).
use mathlib.Core.Path.{◌≡◌, refl, ◌∙◌, ap, fun_ext}
use Prim.Native.Nat.{ℕ, ◌+◌, ◌<◌}
use native.Mathlib.Decide.{dec_lt}
use native.Mathlib.Omega.{arith}
use Rattle.model.specs.Field.{Field, ◌⊕◌, unit, weigh}
use Rattle.model.specs.Card.{Line, fire}
use Rattle.theory.specs.Expansion.{Reply, Simulates, flip, Expands}
use Rattle.theory.proofs.Field.{unit_le, weigh_plus, weigh_unit}

pub fire_split : (l : Line) (a : Field) → 0 < a l.kind → fire l a ⊕ unit l.kind ≡ a ⊕ l.left
fire_split l a h = fun_ext (λ j. omega (arith, unit_le a l.kind j h))

pub fire_left : (l : Line) (a c : Field) → 0 < a l.kind → fire l (a ⊕ c) ≡ fire l a ⊕ c
fire_left l a c h = fun_ext (λ j. omega (arith, unit_le a l.kind j h))

pub fire_right : (l : Line) (a c : Field) → 0 < c l.kind → fire l (a ⊕ c) ≡ a ⊕ fire l c
fire_right l a c h = fun_ext (λ j. omega (arith, unit_le c l.kind j h))

pub weigh_fire : (n : ℕ) (w : ℕ → ℕ) (l : Line) (a : Field) → l.kind < n → 0 < a l.kind
    → weigh n w (fire l a) + w l.kind ≡ weigh n w a + weigh n w l.left
weigh_fire n w l a i h =
    let p = ap (weigh n w) (fire_split l a h) in
    omega (arith, weigh_plus n w (fire l a) (unit l.kind), weigh_plus n w a l.left, weigh_unit n w l.kind i)

module _ {ℓ κ} (L : Line → Type 0) (R : Field → Field → Type ℓ) (Q : Field → Field → Type κ) where
  pub reply_map : {c : ℕ} {x y b d : Field} (r : Reply L R c x b) → (0 < b r.line.kind → 0 < d r.line.kind)
      → (R x (fire r.line b) → Q y (fire r.line d)) → Reply L Q c y d
  reply_map r g f = record { line = r.line; on = r.on; can = g r.can; same = r.same; rel = f r.rel }

  pub sim_mono : ((x y : Field) → R x y → Q x y) → (a b : Field) → Simulates L R a b → Simulates L Q a b
  sim_mono f a b s l o h = reply_map (s l o h) (λ p. p) (f _ _)

  -- A challenge may use what is known of the fields that it and its reply leave.
  pub sim_map : (a b : Field)
      → ((l : Line) → L l → 0 < a l.kind → (m : Line) → L m → 0 < b m.kind → R (fire l a) (fire m b) → Q (fire l a) (fire m b))
      → Simulates L R a b → Simulates L Q a b
  sim_map a b f s l o h =
      let r = s l o h in
      reply_map r (λ p. p) (f l o h r.line r.on r.can)

pub sim_refl {ℓ} : (L : Line → Type 0) (R : Field → Field → Type ℓ) → ((x : Field) → R x x) → (a : Field) → Simulates L R a a
sim_refl L R f a l o h = record { line = l; on = o; can = h; same = refl; rel = f _ }

pub sim_trans {ℓ} : (L : Line → Type 0) (R Q S : Field → Field → Type ℓ) → ((x y z : Field) → R x y → Q y z → S x z)
    → (a b c : Field) → Simulates L R a b → Simulates L Q b c → Simulates L S a c
sim_trans L R Q S f a b c s t l o h =
    let r = s l o h in
    let q = t r.line r.on r.can in
    record { line = q.line; on = q.on; can = q.can; same = q.same ∙ r.same; rel = f _ _ _ r.rel q.rel }

-- A sum is challenged through one of its parts, and the other part stays.
pub sim_plus {ℓ} : (L : Line → Type 0) (R Q S : Field → Field → Type ℓ) (a b c d : Field)
    → ((x y : Field) → R x y → S (x ⊕ c) (y ⊕ d)) → ((x y : Field) → Q x y → S (a ⊕ x) (b ⊕ y))
    → Simulates L R a b → Simulates L Q c d → Simulates L S (a ⊕ c) (b ⊕ d)
sim_plus L R Q S a b c d f g s t l o h = go (dec_lt 0 (a l.kind))
  where
    go : Dec (0 < a l.kind) → Reply L S l.code (fire l (a ⊕ c)) (b ⊕ d)
    go (yes p) =
        let r = s l o p in
        reply_map L R S r (λ q. omega arith) (λ q. rw (fire_left l a c p, fire_left r.line b d r.can) (f _ _ q))
    go (no p) =
        let u : 0 < c l.kind = omega arith in
        let r = t l o u in
        reply_map L Q S r (λ q. omega arith) (λ q. rw (fire_right l a c u, fire_right r.line b d r.can) (g _ _ q))

-- Expansion, of both sides at once, carried from one relation to another.
module _ {ℓ κ} (L : Line → Type 0) (R : Field → Field → Type ℓ) (Q : Field → Field → Type κ) where
  pub expands_map : (a b : Field)
      → ((l m : Line) → L l → 0 < a l.kind → L m → 0 < b m.kind → R (fire l a) (fire m b) → Q (fire l a) (fire m b))
      → Expands L R a b → Expands L Q a b
  expands_map a b f x =
      (sim_map L R Q a b (λ l o h m o' h'. f l m o h o' h') x.0, sim_map L (flip R) (flip Q) b a (λ l o h m o' h'. f m l o' h' o h) x.1)

  pub expands_mono : ((x y : Field) → R x y → Q x y) → (a b : Field) → Expands L R a b → Expands L Q a b
  expands_mono f a b x = expands_map a b (λ l m _ _ _ _. f (fire l a) (fire m b)) x

  pub expands_sym : ((x y : Field) → R x y → Q y x) → (a b : Field) → Expands L R a b → Expands L Q b a
  expands_sym f a b x = (sim_mono L (flip R) Q (λ u v. f v u) b a x.1, sim_mono L R (flip Q) f a b x.0)

pub expands_refl {ℓ} : (L : Line → Type 0) (R : Field → Field → Type ℓ) → ((x : Field) → R x x) → (a : Field) → Expands L R a a
expands_refl L R f a = (sim_refl L R f a, sim_refl L (flip R) f a)

pub expands_trans {ℓ} : (L : Line → Type 0) (R Q S : Field → Field → Type ℓ) → ((x y z : Field) → R x y → Q y z → S x z)
    → (a b c : Field) → Expands L R a b → Expands L Q b c → Expands L S a c
expands_trans L R Q S f a b c x y =
    (sim_trans L R Q S f a b c x.0 y.0, sim_trans L (flip Q) (flip R) (flip S) (λ u v w p q. f w v u q p) c b a y.1 x.1)

pub expands_plus {ℓ} : (L : Line → Type 0) (R Q S : Field → Field → Type ℓ) (a b c d : Field)
    → ((x y : Field) → R x y → S (x ⊕ c) (y ⊕ d)) → ((x y : Field) → Q x y → S (a ⊕ x) (b ⊕ y))
    → Expands L R a b → Expands L Q c d → Expands L S (a ⊕ c) (b ⊕ d)
expands_plus L R Q S a b c d f g x y =
    (sim_plus L R Q S a b c d f g x.0 y.0, sim_plus L (flip R) (flip Q) (flip S) b a d c (λ u v. f v u) (λ u v. g v u) x.1 y.1)

-- By other lines, where each that a side can use is one of both sorts.
sim_on {ℓ} : (L M : Line → Type 0) (R : Field → Field → Type ℓ) (a b : Field) → ((l : Line) → M l → 0 < a l.kind → L l) → ((l : Line) → L l → 0 < b l.kind → M l)
    → Simulates L R a b → Simulates M R a b
sim_on L M R a b f g s l o h = let r = s l (f l o h) h in record { line = r.line; on = g r.line r.on r.can; can = r.can; same = r.same; rel = r.rel }

pub expands_on {ℓ} : (L M : Line → Type 0) (R : Field → Field → Type ℓ) (a b : Field)
    → ((l : Line) → M l → 0 < a l.kind → L l) → ((l : Line) → M l → 0 < b l.kind → L l)
    → ((l : Line) → L l → 0 < a l.kind → M l) → ((l : Line) → L l → 0 < b l.kind → M l) → Expands L R a b → Expands M R a b
expands_on L M R a b f g f' g' x = (sim_on L M R a b f g' x.0, sim_on L M (flip R) b a g f' x.1)
