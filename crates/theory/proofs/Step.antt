-- What the program tests: a stage's relation on a kind and a product of earlier atoms, by equal forms under the rows known so far.
use mathlib.Core.Path.{◌≡◌, ap}
use mathlib.Core.Logic.{◌↔◌}
use Prim.Native.Nat.{ℕ, ◌<◌}
use native.Mathlib.Omega.{arith}
use Rattle.model.specs.Field.{Field, unit}
use Rattle.model.specs.Card.{Line, fire}
use Rattle.theory.specs.Expansion.{Expands}
use Rattle.theory.proofs.Moves.{expands_map}
use Rattle.theory.proofs.Normed.{Normed, Low, Tidy}
use Rattle.theory.proofs.Stages.{Cong, Down, down_cong, Down_in, Down_out, Down_make}
use Rattle.theory.proofs.Rank.{rank, Within, low_within}
use Rattle.theory.proofs.Base.{Base, form, within_fire, unit_some}
use Rattle.theory.proofs.Unique.{form_iff}
use Rattle.theory.proofs.Settle.{Whole, tidy_within, tidy_fire}

-- Equal forms under a base.
abbrev pub Same : (N : Normed) (R : Field → Field → Type 0) (B : ℕ) → Base N R B → Field → Field → Type 0
Same N R B D a b = form N R B D a ≡ form N R B D b

-- Expansion in a relation with a whole base is expansion in equal forms.
module _ (N : Normed) (R : Field → Field → Type 0) (C : Cong N R) (X : (a b : Field) → R a b → Expands (Low N) R a b) (B : ℕ) (W : Whole N B) (D : Base N R B) where
  within : (l : Line) (a : Field) → N.on l → Tidy N a → Within N B (fire l a)
  within l a o t = tidy_within N B W (fire l a) (tidy_fire N l a o t)

  pub expands_same : (a b : Field) → Tidy N a → Tidy N b → Expands N.on R a b ↔ Expands N.on (Same N R B D) a b
  expands_same a b t u =
      let S = Same N R B D in
      let f = form_iff N R B D C X in (
        expands_map N.on R S a b (λ l m o _ p _. (f _ _ (within l a o t) (within m b p u)).0),
        expands_map N.on S R a b (λ l m o _ p _. (f _ _ (within l a o t) (within m b p u)).1),
      )

-- The test of a row: in P, with norm-reducing expansion in equal forms under the rows of the earlier kinds.
module _ (N : Normed) (P : Field → Field → Type 0) (C : Cong N P) (k : ℕ) (h : k < N.n) (q : 0 < N.w k) (E : Base N (Down N P) (rank N k)) where
  unit_fired : (l : Line) → Low N l → 0 < unit k l.kind → Within N (rank N k) (fire l (unit k))
  unit_fired l o i j r =
      let e : l.kind ≡ k = unit_some k l.kind i in
      let u = low_within N l o j (omega (arith, ap (λ x. unit x j) e)) in
      (u.0, u.1, omega (arith, u.2, ap (rank N) e))

  pub row_test : (c : Field) → Within N (rank N k) c
      → Down N P (unit k) c ↔ (P (unit k) c × Expands (Low N) (Same N (Down N P) (rank N k) E) (unit k) c)
  row_test c w =
      let R = Down N P in
      let S = Same N R (rank N k) E in
      let K = down_cong N P C in
      let X = Down_out N P C in
      let f = form_iff N R (rank N k) E K X in
      let cw : (m : Line) → Low N m → 0 < c m.kind → Within N (rank N k) (fire m c) = λ m o i. within_fire N R (rank N k) E m c o i w in (
        (λ p. (
          Down_in N P C (unit k) c p,
          expands_map (Low N) R S (unit k) c (λ l m o i o' i'. (f _ _ (unit_fired l o i) (cw m o' i')).0) (Down_out N P C (unit k) c p),
        )),
        (λ p. Down_make N P C (unit k) c p.0
            (expands_map (Low N) S R (unit k) c (λ l m o i o' i'. (f _ _ (unit_fired l o i) (cw m o' i')).1) p.1)),
      )
