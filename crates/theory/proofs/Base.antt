-- A base of a relation, for the kinds below a rank, and the form of a field in its atoms.
use mathlib.Core.Path.{◌≡◌, ap}
use mathlib.Core.Logic.{◌⊎◌, inl, inr}
use Prim.Native.Nat.{ℕ, ◌+◌, ◌≤◌, ◌<◌}
use native.Mathlib.Decide.{dec_lt, ℕ_discrete}
use native.Mathlib.Omega.{arith}
use Rattle.model.specs.Field.{Field, ◌⊕◌, unit}
use Rattle.model.specs.Card.{Line, fire}
use Rattle.theory.specs.Expansion.{Expands}
use Rattle.theory.proofs.Field.{unit_other}
use Rattle.theory.proofs.Normed.{Normed, Low}
use Rattle.theory.proofs.Stages.{Cong}
use Rattle.theory.proofs.Rank.{rank, Within, low_within, decomp, decomp_plus, decomp_unit, decomp_some, decomp_self, decomp_rel}

-- No field of earlier kinds is related to the kind.
abbrev pub Prime : (N : Normed) → (Field → Field → Type 0) → ℕ → Type 0
Prime N R k = (c : Field) → Within N (rank N k) c → ¬ R (unit k) c

-- The row of an atom is the kind itself, once.
abbrev pub Atom : (ℕ → Field) → ℕ → Type 0
Atom row k = row k ≡ unit k

abbrev pub Made : (N : Normed) → (ℕ → Field) → ℕ → Type 0
Made N row k = (j : ℕ) → 0 < row k j → (j < N.n) × (0 < N.w j) × (rank N j < rank N k) × Atom row j

pub record Base (N : Normed) (R : Field → Field → Type 0) (B : ℕ) : Type 0 where
  pub row : ℕ → Field
  pub rel : (k : ℕ) → k < N.n → 0 < N.w k → rank N k < B → R (unit k) (row k)
  pub sort : (k : ℕ) → k < N.n → 0 < N.w k → rank N k < B → (Atom row k × Prime N R k) ⊎ Made N row k

pub unit_some : (k j : ℕ) → 0 < unit k j → j ≡ k
unit_some k j h = go (ℕ_discrete j k)
  where
    go : Dec (j ≡ k) → j ≡ k
    go (yes e) = e
    go (no d) = absurd (omega (arith, unit_other k j d))

pub within_unit : (N : Normed) (B k : ℕ) → k < N.n → 0 < N.w k → rank N k < B → Within N B (unit k)
within_unit N B k h q i j r = rw (unit_some k j r) (h, q, i)

module _ (N : Normed) (R : Field → Field → Type 0) (B : ℕ) (D : Base N R B) where
  -- A product of atoms of the base.
  abbrev pub Atoms : Field → Type 0
  Atoms a = Within N B a × ((k : ℕ) → 0 < a k → Atom D.row k)

  unfoldable pub form : Field → Field
  form a = decomp N D.row a

  pub form_plus : (a b : Field) (j : ℕ) → form (a ⊕ b) j ≡ form a j + form b j
  unfolding form
  form_plus a b j = decomp_plus N D.row a b j

  pub form_unit : (k : ℕ) → k < N.n → form (unit k) ≡ D.row k
  unfolding form
  form_unit k h = decomp_unit N D.row k h

  -- The form of a field of kinds below a rank is made of atoms below it.
  pub form_within : (H : ℕ) (a : Field) → H ≤ B → Within N H a → Within N H (form a) × ((k : ℕ) → 0 < form a k → Atom D.row k)
  unfolding form
  form_within H a i f = ((λ j h. let t = at j h in (t.0, t.1, t.2)), (λ j h. (at j h).3))
    where
      Goal : ℕ → Type 0
      Goal j = (j < N.n) × (0 < N.w j) × (rank N j < H) × Atom D.row j

      at : (j : ℕ) → 0 < decomp N D.row a j → Goal j
      at j h = go (D.sort k u.0 u.1 (omega (arith, u.2)))
        where
          s : (k : ℕ) × (k < N.n) × (0 < a k) × (0 < D.row k j)
          s = decomp_some N D.row a j h

          k : ℕ
          k = s.0

          u : (k < N.n) × (0 < N.w k) × (rank N k < H)
          u = f k s.2

          go : (Atom D.row k × Prime N R k) ⊎ Made N D.row k → Goal j
          go (inl p) =
              let e : j ≡ k = unit_some k j (rw (ap (λ (x : Field). x j) p.0) at s.3) in
              rw e (u.0, u.1, u.2, p.0)
          go (inr m) = let t = m j s.3 in (t.0, t.1, omega (arith, t.2, u.2), t.3)

  pub form_atoms : (a : Field) → Within N B a → Atoms (form a)
  form_atoms a f = form_within B a (omega arith) f

  pub form_self : (a : Field) → Atoms a → form a ≡ a
  unfolding form
  form_self a t = decomp_self N D.row B a t.0 t.1

  pub within_fire : (l : Line) (a : Field) → Low N l → 0 < a l.kind → Within N B a → Within N B (fire l a)
  within_fire l a o h f k q = go (dec_lt 0 (a k))
    where
      go : Dec (0 < a k) → (k < N.n) × (0 < N.w k) × (rank N k < B)
      go (yes p) = f k p
      go (no p) = let t = low_within N l o k (omega arith) in (t.0, t.1, omega (arith, t.2, (f l.kind h).2))

  module _ (C : Cong N R) (X : (a b : Field) → R a b → Expands (Low N) R a b) where
    pub form_rel : (a : Field) → Within N B a → R a (form a)
    unfolding form
    form_rel a f = decomp_rel N R C D.row B a f (λ k h. let u = f k h in D.rel k u.0 u.1 u.2)
