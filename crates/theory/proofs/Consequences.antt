-- What the settled stage gives: whole games, common tokens struck out, and norms as fewest reads.
use mathlib.Core.Path.{◌≡◌, ap, fun_ext}
use mathlib.Core.Logic.{◌↔◌}
use Prim.Native.Nat.{ℕ, zero, suc, ◌≤◌, ◌<◌}
use native.Mathlib.Decide.{dec_lt, ℕ_discrete}
use native.Mathlib.Omega.{arith}
use Rattle.model.specs.Field.{Field, ◌⊕◌}
use Rattle.model.specs.Card.{fire}
use Rattle.model.specs.Norm.{Clears}
use Rattle.theory.proofs.Field.{weigh_plus}
use Rattle.theory.proofs.Normed.{Normed, norm, Tidy, fire_low, some_low, part_norm}
use Rattle.theory.proofs.Norms.{clears_least}
use Rattle.theory.proofs.Stages.{Stage, level, level_cong, stage_less}
use Rattle.theory.proofs.Game.{FineHolds, Fine, rounds, holds_stage, bisimilar_stage}
use Rattle.theory.proofs.Rank.{Within, within_plus}
use Rattle.theory.proofs.Base.{Base, form, form_plus}
use Rattle.theory.proofs.Unique.{form_iff}
use Rattle.theory.proofs.Settle.{Settled, AtStage, settled_bisimulation, settled_holds, tidy_fire, tidy_within}
use Rattle.theory.proofs.Decide.{Finite, dec_stage}
use Rattle.theory.proofs.Count.{past, past_whole, level_low, level_base}

module _ (N : Normed) where
  -- The pair holds at every number of rounds.
  abbrev pub Always : Field → Field → Type 0
  Always a b = (r : ℕ) → FineHolds N r a b

  module _ (s : ℕ) (S : Settled N s) where
    always : (a b : Field) → AtStage N s a b → Always a b
    always a b p = settled_holds N s S a b p.0 p.1 p.2

    -- What holds at every number of rounds is what the settled stage relates.
    pub always_iff : (a b : Field) → Tidy N a → Tidy N b → Always a b ↔ Stage N s a b
    always_iff a b t u = ((λ h. holds_stage N s a b (h (rounds N s a b))), (λ p. always a b (t, u, p)))

  -- Common tokens may be struck out at any stage.
  pub cancel : Finite N.on → (s : ℕ) (a b c : Field) → Tidy N a → Tidy N b → Tidy N c → Stage N s (a ⊕ c) (b ⊕ c) ↔ Stage N s a b
  unfolding Stage
  cancel F zero a b c t u v =
      let p = weigh_plus N.n N.w a c in
      let q = weigh_plus N.n N.w b c in
      let p' = weigh_plus N.n N.e a c in
      let q' = weigh_plus N.n N.e b c in
      ((λ h. (omega (arith, h.0), omega (arith, h.1))), (λ h. (omega (arith, h.0), omega (arith, h.1))))
  cancel F (suc s) a b c t u v = (
    (λ h. (iff a b a_in b_in).1 (fun_ext (λ j.
        omega (arith, ap (λ (x : Field). x j) ((iff (a ⊕ c) (b ⊕ c) ac_in bc_in).0 h), form_plus N R B D a c j, form_plus N R B D b c j)))),
    (λ h. (level_cong N s).plus a b c c h ((level_cong N s).rfl c)),
  )
    where
      R : Field → Field → Type 0
      R = level N s

      B : ℕ
      B = past N F

      D : Base N R B
      D = level_base N F s

      a_in : Within N B a
      a_in = tidy_within N B (past_whole N F) a t

      b_in : Within N B b
      b_in = tidy_within N B (past_whole N F) b u

      c_in : Within N B c
      c_in = tidy_within N B (past_whole N F) c v

      ac_in : Within N B (a ⊕ c)
      ac_in = within_plus N B a c a_in c_in

      bc_in : Within N B (b ⊕ c)
      bc_in = within_plus N B b c b_in c_in

      iff : (x y : Field) → Within N B x → Within N B y → R x y ↔ (form N R B D x ≡ form N R B D y)
      iff = form_iff N R B D (level_cong N s) (level_low N F s)

  -- The norm is the fewest reads to the empty field.
  pub norm_least : (r : ℕ) (a : Field) → Clears N.on r a → norm N a ≤ r
  norm_least r a p = clears_least N.on N.n N.w (λ l o. ((N.live l o).0, N.slow l o)) r a p

  pub norm_clears : (r : ℕ) (a : Field) → norm N a ≡ r → Tidy N a → Clears N.on r a
  unfolding Clears
  norm_clears zero a e t = fun_ext (λ k. go k (dec_lt 0 (a k)))
    where
      go : (k : ℕ) → Dec (0 < a k) → a k ≡ 0
      go k (yes p) = let u = t k p in absurd (omega (arith, part_norm N a k u.0 p, u.1))
      go k (no p) = omega arith
  norm_clears (suc r) a e t =
      let l = some_low N a (omega arith) in
      (l.0, l.1.0, l.2, norm_clears r (fire l.0 a) (omega (arith, fire_low N l.0 a l.1 l.2)) (tidy_fire N l.0 a l.1.0 t))

  -- From the settled stage on nothing changes.
  pub settled_stays : (s : ℕ) → Settled N s → (t : ℕ) (a b : Field) → Tidy N a → Tidy N b → Stage N s a b → Stage N t a b
  settled_stays s S t a b u v p = bisimilar_stage N (AtStage N s) (settled_bisimulation N s S) t a b (u, v, p)

  pub stage_down : (s i : ℕ) (a b : Field) → i ≤ s → Stage N s a b → Stage N i a b
  stage_down zero i a b h p = let e : 0 ≡ i = omega arith in rw e at p
  stage_down (suc s) i a b h p = go (ℕ_discrete (suc s) i) (stage_down s i a b)
    where
      go : Dec (suc s ≡ i) → (i ≤ s → Stage N s a b → Stage N i a b) → Stage N i a b
      go (yes e) f = rw e at p
      go (no d) f = f (omega arith) (stage_less N s a b p)

  -- The least stage that does not relate the pair, if one up to s does not.
  abbrev pub Parts : ℕ → Field → Field → Type 0
  Parts t a b = (¬ Stage N t a b) × ((i : ℕ) → i < t → Stage N i a b)

  pub least_apart : Finite N.on → (s : ℕ) (a b : Field) → ¬ Stage N s a b → (t : ℕ) × (t ≤ s) × Parts t a b
  least_apart F zero a b n = (0, omega arith, (n, (λ i h. absurd (omega arith))))
  least_apart F (suc s) a b n = go (dec_stage N F s a b) (least_apart F s a b)
    where
      go : Dec (Stage N s a b) → (¬ Stage N s a b → (t : ℕ) × (t ≤ s) × Parts t a b) → (t : ℕ) × (t ≤ suc s) × Parts t a b
      go (yes p) f = (suc s, omega arith, (n, (λ i h. stage_down s i a b (omega arith) p)))
      go (no m) f = let r = f m in (r.0, omega (arith, r.1), r.2)

  -- What the settled stage relates is what some bisimulation whose pairs share the second weight relates.
  pub settled_fine : (s : ℕ) → Settled N s → (a b : Field) → Tidy N a → Tidy N b → Stage N s a b ↔ ((R : Field → Field → Type 0) × Fine N R × R a b)
  settled_fine s S a b t u =
      ((λ p. (AtStage N s, settled_bisimulation N s S, (t, u, p))), (λ x. bisimilar_stage N x.0 x.1 s a b x.2))
