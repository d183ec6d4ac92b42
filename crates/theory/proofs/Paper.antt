-- The paper's sentences on stages, in either sense, leave one relation for each: two families that satisfy them relate the same pairs.
use mathlib.Core.Logic.{◌↔◌}
use Prim.Native.Nat.{ℕ, zero, suc, ◌≤◌}
use native.Mathlib.Omega.{arith}
use Rattle.model.specs.Field.{Field}
use Rattle.model.specs.Card.{Card, On}
use Rattle.model.specs.Norm.{norm_by}
use Rattle.theory.specs.Expansion.{Expands}
use Rattle.model.specs.Sense.{Sense}
use Rattle.theory.specs.Stages.{Lowers, StagesIn}
use Rattle.theory.specs.Terms.{OfKinds}
use Rattle.theory.proofs.Moves.{expands_map}
use Rattle.theory.proofs.Normed.{fire_low}
use Rattle.theory.proofs.Reach.{fire_kinds}
use Rattle.theory.proofs.Certified.{Found}
use Rattle.theory.proofs.Senses.{normed_in}

module _ (m : Sense) (c : Card) (w : ℕ → ℕ) (F : Found c w) where
  -- A relation within P by norm-reducing expansion in itself lies in any such relation within Q, where P lies in Q: the norm falls.
  module _ (R S P Q : Field → Field → Type 0) (out : (a b : Field) → OfKinds c a → OfKinds c b → R a b → P a b × Expands (Lowers c w) R a b)
      (make : (a b : Field) → OfKinds c a → OfKinds c b → Q a b × Expands (Lowers c w) S a b → S a b) (f : (a b : Field) → OfKinds c a → OfKinds c b → P a b → Q a b) where
    by_norm : (d : ℕ) (a b : Field) → OfKinds c a → OfKinds c b → norm_by c w a ≤ d → R a b → S a b
    by_norm zero a b u v h p =
        let x = out a b u v p in
        make a b u v (f a b u v x.0, expands_map (Lowers c w) R S a b (λ l n o i _ _ _. absurd (omega (arith, fire_low (normed_in m c w F) l a o i))) x.1)
    by_norm (suc d) a b u v h p =
        let x = out a b u v p in
        make a b u v (
          f a b u v x.0,
          expands_map (Lowers c w) R S a b (λ l n o i q _. by_norm d _ _ (fire_kinds c l a o.0 u) (fire_kinds c n b q.0 v) (omega (arith, fire_low (normed_in m c w F) l a o i))) x.1,
        )

    inside : (a b : Field) → OfKinds c a → OfKinds c b → R a b → S a b
    inside a b u v p = by_norm (norm_by c w a) a b u v (omega arith) p

  half : (S S' : ℕ → Field → Field → Type 0) → StagesIn m c w S → StagesIn m c w S' → (s : ℕ) (a b : Field) → OfKinds c a → OfKinds c b → S s a b → S' s a b
  half S S' X X' zero a b u v p = (X'.start a b u v).1 ((X.start a b u v).0 p)
  half S S' X X' (suc zero) a b u v p =
      inside (S 1) (S' 1) (S 0) (S' 0) (λ x y i j. (X.one x y i j).0) (λ x y i j. (X'.one x y i j).1) (half S S' X X' zero) a b u v p
  half S S' X X' (suc (suc s)) a b u v p =
      inside (S (suc (suc s))) (S' (suc (suc s))) (λ x y. S (suc s) x y × Expands (On c) (S (suc s)) x y)
      (λ x y. S' (suc s) x y × Expands (On c) (S' (suc s)) x y) (λ x y i j q. let z = (X.next s x y i j).0 q in ((z.0, z.1), z.2))
      (λ x y i j q. (X'.next s x y i j).1 (q.0.0, q.0.1, q.1))
      (λ x y i j q. (
        half S S' X X' (suc s) x y i j q.0,
        expands_map (On c) (S (suc s)) (S' (suc s)) x y (λ l n o h o' h'. half S S' X X' (suc s) _ _ (fire_kinds c l x (o, i l.kind h) i) (fire_kinds c n y (o', j n.kind h') j)) q.1,
      )) a b u v p

  pub stages_only : (S S' : ℕ → Field → Field → Type 0) → StagesIn m c w S → StagesIn m c w S' → (s : ℕ) (a b : Field) → OfKinds c a → OfKinds c b → S s a b ↔ S' s a b
  stages_only S S' X X' s a b u v = (half S S' X X' s a b u v, half S' S X' X s a b u v)
