-- A card whose kinds have norms: the facts that the theory rests on.
-- A kind k is live if k < n and its norm is not 0; a kind that is out (not reached) is given the norm 0 and has no line.
use mathlib.Core.Path.{◌≡◌, ap}
use Prim.Native.Nat.{ℕ, suc, ◌+◌, ◌≤◌, ◌<◌}
use native.Mathlib.Nat.{mul-le-mul_right}
use native.Mathlib.Omega.{arith}
use Rattle.model.specs.Field.{Field, weigh}
use Rattle.model.specs.Card.{Line, fire}
use Rattle.theory.proofs.Field.{weigh_part, weigh_some}
use Rattle.theory.proofs.Moves.{weigh_fire}

pub record Normed : Type 1 where
  pub n : ℕ
  -- The norm of each kind, and a second weight that related fields share (0 for the plain comparison, 1 for the finer).
  pub w : ℕ → ℕ
  pub e : ℕ → ℕ
  -- The lines of the card.
  pub on : Line → Type 0
  -- The most that one read adds to a norm.
  pub g : ℕ
  pub live : (l : Line) → on l → (l.kind < n) × (0 < w l.kind)
  pub slow : (l : Line) → on l → w l.kind ≤ suc (weigh n w l.left)
  pub gain : (l : Line) → on l → weigh n w l.left ≤ w l.kind + g
  pub fast : (k : ℕ) → k < n → 0 < w k → (l : Line) × on l × (l.kind ≡ k) × (w k ≡ suc (weigh n w l.left))
  pub tidy : (l : Line) → on l → (k : ℕ) → 0 < l.left k → (k < n) × (0 < w k)

module _ (N : Normed) where
  abbrev pub norm : Field → ℕ
  norm a = weigh N.n N.w a

  abbrev pub extra : Field → ℕ
  extra a = weigh N.n N.e a

  -- The lines that lower the norm.
  abbrev pub Low : Line → Type 0
  Low l = N.on l × (norm l.left < N.w l.kind)

  -- A field holds live kinds only.
  abbrev pub Tidy : Field → Type 0
  Tidy a = (k : ℕ) → 0 < a k → (k < N.n) × (0 < N.w k)

  pub norm_fire : (l : Line) (a : Field) → N.on l → 0 < a l.kind
      → norm (fire l a) + N.w l.kind ≡ norm a + norm l.left
  norm_fire l a o h = weigh_fire N.n N.w l a (N.live l o).0 h

  -- No read lowers the norm by more than one, or raises it by more than g.
  pub fire_slow : (l : Line) (a : Field) → N.on l → 0 < a l.kind → norm a ≤ suc (norm (fire l a))
  fire_slow l a o h = omega (arith, norm_fire l a o h, N.slow l o)

  pub fire_gain : (l : Line) (a : Field) → N.on l → 0 < a l.kind → norm (fire l a) ≤ norm a + N.g
  fire_gain l a o h = omega (arith, norm_fire l a o h, N.gain l o)

  -- A line lowers the norm of a field, by one, just when it is low.
  pub fire_low : (l : Line) (a : Field) → Low l → 0 < a l.kind → suc (norm (fire l a)) ≡ norm a
  fire_low l a o h = omega (arith, norm_fire l a o.0 h, N.slow l o.0)

  pub low_fire : (l : Line) (a : Field) → N.on l → 0 < a l.kind → norm (fire l a) < norm a → Low l
  low_fire l a o h q = (o, omega (arith, norm_fire l a o h))

  -- A field of norm above 0 can make a read that lowers it.
  pub some_low : (a : Field) → 0 < norm a → (l : Line) × Low l × (0 < a l.kind)
  some_low a h =
      let k = weigh_some N.n N.w a h in
      let f = N.fast k.0 k.1 k.3 in
      (f.0, (f.1, rw f.2 (omega (arith, f.3))), rw f.2 k.2)

  pub low_of : (k : ℕ) → k < N.n → 0 < N.w k → (l : Line) × Low l × (l.kind ≡ k)
  low_of k h q = let l = N.fast k h q in (l.0, (l.1, omega (arith, l.3, ap N.w l.2)), l.2)

  -- A field weighs at least what one of its tokens does.
  pub part_norm : (a : Field) (k : ℕ) → k < N.n → 0 < a k → N.w k ≤ norm a
  part_norm a k h q = omega (arith, weigh_part N.n N.w a k h, mul-le-mul_right (N.w k) q)

  pub can_norm : (l : Line) (a : Field) → N.on l → 0 < a l.kind → 0 < norm a
  can_norm l a o h = omega (arith, part_norm a l.kind (N.live l o).0 h, (N.live l o).1)
