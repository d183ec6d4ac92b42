-- The test of the rows, the next stage's new atom, and the settled stage as the largest bisimulation.
use mathlib.Core.Path.{◌≡◌, sym, ◌∙◌}
use Prim.Native.Nat.{ℕ, ◌<◌}
use native.Mathlib.Decide.{dec_lt}
use native.Mathlib.Omega.{arith}
use Rattle.model.specs.Field.{Field, unit}
use Rattle.model.specs.Card.{Line, fire}
use Rattle.theory.specs.Expansion.{Expands}
use Rattle.theory.proofs.Moves.{expands_map}
use Rattle.theory.proofs.Normed.{Normed, Low, Tidy}
use Rattle.theory.proofs.Stages.{Cong, Next, Stage, next_cong, stage_cong}
use Rattle.theory.proofs.Game.{Fine, FineHolds, bisimilar_stage, bisimilar_holds}
use Rattle.theory.proofs.Rank.{rank, Within, decomp_rel}
use Rattle.theory.proofs.Base.{Base, Prime, form, form_unit, within_unit}
use Rattle.theory.proofs.Unique.{form_iff}

-- The bound is past every kind.
abbrev pub Whole : Normed → ℕ → Type 0
Whole N B = (k : ℕ) → k < N.n → rank N k < B

pub tidy_within : (N : Normed) (B : ℕ) → Whole N B → (a : Field) → Tidy N a → Within N B a
tidy_within N B W a t k h = let u = t k h in (u.0, u.1, W k u.0)

-- Every kind's pair with its row satisfies expansion.
abbrev pub Passes : (N : Normed) (R : Field → Field → Type 0) (B : ℕ) → Base N R B → Type 0
Passes N R B D = (k : ℕ) → k < N.n → 0 < N.w k → Expands N.on R (unit k) (D.row k)

module _ (N : Normed) (R : Field → Field → Type 0) (C : Cong N R) (X : (a b : Field) → R a b → Expands (Low N) R a b) (B : ℕ) (D : Base N R B) where
  -- A field and its form satisfy expansion where its kinds do.
  form_next : (a : Field) → Within N B a → ((k : ℕ) → 0 < a k → Expands N.on R (unit k) (D.row k)) → Next N R a (form N R B D a)
  unfolding form
  form_next a f h = decomp_rel N (Next N R) (next_cong N R C) D.row B a f (λ k q. let u = f k q in (D.rel k u.0 u.1 u.2, h k q))

  -- Lemma 3 (iii): if every row passes, every related pair does.
  pub all_pass : Passes N R B D → (a b : Field) → Within N B a → Within N B b → R a b → Expands N.on R a b
  all_pass P a b i i' p =
      let K = next_cong N R C in
      let x = form N R B D a in
      let y = form N R B D b in
      let e : x ≡ y = (form_iff N R B D C X a b i i').0 p in
      let u = form_next a i (λ k q. let u = i k q in P k u.0 u.1) in
      let v = form_next b i' (λ k q. let u = i' k q in P k u.0 u.1) in
      (K.tr a x b u (K.sm b x (rw e v))).1

  -- Lemma 4 (iii): the first kind whose row fails is an atom of the next relation.
  pub new_prime : (k : ℕ) → k < N.n → rank N k < B → 0 < N.w k → ¬ Expands N.on R (unit k) (D.row k)
      → ((j : ℕ) → j < N.n → 0 < N.w j → rank N j < rank N k → Expands N.on R (unit j) (D.row j)) → Prime N (Next N R) k
  new_prime k h i q n f c w p =
      let K = next_cong N R C in
      let v : Within N B c = λ j r. let u = w j r in (u.0, u.1, omega (arith, u.2)) in
      let s = within_unit N B k h q i in
      let y = form N R B D c in
      let x : Next N R c y = form_next c v (λ j r. let u = w j r in f j u.0 u.1 u.2) in
      let e : D.row k ≡ y = sym (form_unit N R B D k h) ∙ (form_iff N R B D C X (unit k) c s v).0 p.0 in
      n (rw e (K.tr (unit k) c y p x).1)

pub prime_less : (N : Normed) (R Q : Field → Field → Type 0) → ((a b : Field) → Q a b → R a b) → (k : ℕ) → Prime N R k → Prime N Q k
prime_less N R Q f k p c w q = p c w (f (unit k) c q)

module _ (N : Normed) where
  pub tidy_fire : (l : Line) (a : Field) → N.on l → Tidy N a → Tidy N (fire l a)
  tidy_fire l a o t k h = go (dec_lt 0 (a k))
    where
      go : Dec (0 < a k) → (k < N.n) × (0 < N.w k)
      go (yes p) = t k p
      go (no p) = N.tidy l o k (omega arith)

  -- Every pair that the stage relates satisfies expansion in it.
  abbrev pub Settled : ℕ → Type 0
  Settled s = (a b : Field) → Tidy N a → Tidy N b → Stage N s a b → Expands N.on (Stage N s) a b

  abbrev pub AtStage : ℕ → Field → Field → Type 0
  AtStage s a b = Tidy N a × Tidy N b × Stage N s a b

  pub settled_bisimulation : (s : ℕ) → Settled s → Fine N (AtStage s)
  unfolding Fine
  settled_bisimulation s S = (
    (λ a b p. (stage_cong N s).extras a b p.2),
    (λ a b p.
        expands_map N.on (Stage N s) (AtStage s) a b (λ l m o _ o' _ r. (tidy_fire l a o p.0, tidy_fire m b o' p.1, r)) (S a b p.0 p.1 p.2)),
  )

  -- The settled stage is the largest bisimulation, and what it relates holds at every number of rounds.
  pub settled_largest {ℓ} : (s : ℕ) → Settled s → (a b : Field) → Tidy N a → Tidy N b
      → (Stage N s a b → Fine N (AtStage s) × AtStage s a b) × ((R : Field → Field → Type ℓ) → Fine N R → R a b → Stage N s a b)
  settled_largest s S a b t u = ((λ p. (settled_bisimulation s S, (t, u, p))), (λ R I p. bisimilar_stage N R I s a b p))

  pub settled_holds : (s : ℕ) → Settled s → (a b : Field) → Tidy N a → Tidy N b → Stage N s a b → (r : ℕ) → FineHolds N r a b
  settled_holds s S a b t u p r = bisimilar_holds N (AtStage s) (settled_bisimulation s S) r a b (t, u, p)
