-- Joined fields under a bisimulation: a part may be exchanged for one that is related to it, and where one part can be cleared the other has a match.
use mathlib.Core.Path.{◌≡◌, ap, ◌∙◌, fun_ext}
use Prim.Native.Nat.{ℕ, zero, suc, ◌<◌}
use native.Mathlib.Omega.{arith}
use Rattle.model.specs.Field.{Field, ◌⊕◌}
use Rattle.model.specs.Card.{Line, Card, On, fire}
use Rattle.model.specs.Norm.{Clears}
use Rattle.theory.specs.Expansion.{flip, Expands, Bisimulation, Bisimilar}
use Rattle.theory.specs.Terms.{OfKinds}
use Rattle.theory.proofs.Moves.{fire_left, sim_refl, sim_trans, sim_plus}

data Alike {ℓ} : Field → Field → Type ℓ where
  alike : (x : Field) → Alike x x

pub itself {ℓ} : (L : Line → Type 0) (a : Field) → Bisimilar {ℓ} L a a
unfolding Bisimilar
itself L a = (Alike {ℓ}, steps, alike a)
  where
    steps : Bisimulation L (Alike {ℓ})
    steps _ _ (alike x) = (sim_refl L (Alike {ℓ}) alike x, sim_refl L (flip (Alike {ℓ})) alike x)

-- Two fields with one first part, and second parts that R relates.
data Exchanged {ℓ} (R : Field → Field → Type ℓ) : Field → Field → Type ℓ where
  exchanged : (y z x : Field) → R x z → Exchanged R (y ⊕ z) (y ⊕ x)

module _ {ℓ} (L : Line → Type 0) (R : Field → Field → Type ℓ) (B : Bisimulation L R) where
  first_moved : (z x : Field) → R x z → (a b : Field) → Alike {ℓ} a b → Exchanged R (a ⊕ z) (b ⊕ x)
  first_moved z x r _ _ (alike y) = exchanged y z x r

  first_moved_back : (z x : Field) → R x z → (a b : Field) → Alike {ℓ} a b → Exchanged R (b ⊕ z) (a ⊕ x)
  first_moved_back z x r _ _ (alike y) = exchanged y z x r

  exchanged_expands : (a b : Field) → Exchanged R a b → Expands L (Exchanged R) a b
  exchanged_expands _ _ (exchanged y z x r) = (
    sim_plus L (Alike {ℓ}) (flip R) (Exchanged R) y y z x (first_moved z x r) (λ u v e. exchanged y u v e) (sim_refl L (Alike {ℓ}) alike y) (B x z r).1,
    sim_plus L (Alike {ℓ}) R (flip (Exchanged R)) y y x z (first_moved_back z x r) (λ u v e. exchanged y v u e) (sim_refl L (Alike {ℓ}) alike y) (B x z r).0,
  )

  -- R, and then an exchange.
  abbrev Through : Field → Field → Type ℓ
  Through a b = (m : Field) × R a m × Exchanged R m b

  pub exchange : (a y z x : Field) → R a (y ⊕ z) → R x z → Bisimilar {ℓ} L a (y ⊕ x)
  unfolding Bisimilar
  exchange a y z x p r = (Through, steps, (y ⊕ z, p, exchanged y z x r))
    where
      steps : Bisimulation L Through
      steps a b (m, p, q) = (
        sim_trans L R (Exchanged R) Through (λ u v w e f. (v, e, f)) a m b (B a m p).0 (exchanged_expands m b q).0,
        sim_trans L (flip (Exchanged R)) (flip R) (flip Through) (λ u v w e f. (v, f, e)) b m a (exchanged_expands m b q).1 (B a m p).1,
      )

-- Where y can be cleared, what is related to y joined with z leads to what is related to z.
module _ {ℓ} (c : Card) (R : Field → Field → Type ℓ) (B : Bisimulation (On c) R)
    (kept : (l : Line) (a : Field) → On c l → 0 < a l.kind → OfKinds c a → OfKinds c (fire l a)) where
  pub left_over : (r : ℕ) (y z a : Field) → OfKinds c a → Clears (On c) r y → R a (y ⊕ z) → (x : Field) × OfKinds c x × R x z
  unfolding Clears
  left_over zero y z a u e p = (a, u, let h : y ⊕ z ≡ z = ap (λ (f : Field). f ⊕ z) e ∙ fun_ext (λ k. omega arith) in rw h at p)
  left_over (suc r) y z a u (l, o, h, t) p =
      let w = (B a (y ⊕ z) p).1 l o (omega arith) in
      left_over r (fire l y) z (fire w.line a) (kept w.line a w.on w.can u) t (rw (fire_left l y z h) at w.rel)
