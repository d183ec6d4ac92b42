-- The atoms of a base are counted; a stage that is not settled is followed by one with more atoms.
use mathlib.Core.Path.{◌≡◌, refl, ◌∙◌, ap}
use mathlib.Core.Logic.{◌⊎◌, inl, inr}
use Prim.Native.Nat.{ℕ, zero, suc, ◌+◌, ◌≤◌, ◌<◌, min, max}
use native.Mathlib.Decide.{dec_lt, ℕ_discrete}
use native.Mathlib.Omega.{arith}
use Rattle.model.specs.Field.{Field, unit, weigh}
use Rattle.theory.specs.Expansion.{Expands}
use Rattle.theory.proofs.Search.{first_below, dec_implies}
use Rattle.theory.proofs.Field.{unit_same, weigh_unit, weigh_some, weigh_part, weigh_mono, weigh_less}
use Rattle.theory.proofs.Normed.{Normed, Low}
use Rattle.theory.proofs.Stages.{Cong, Alike, Next, level, Stage, level_cong, Down_in, Down_out, next_cong, alike_cong}
use Rattle.theory.proofs.Rank.{rank}
use Rattle.theory.proofs.Base.{Base, Prime, Atom, Made}
use Rattle.theory.proofs.Settle.{Whole, Passes, Settled, tidy_within, all_pass, new_prime, prime_less}
use Rattle.theory.proofs.Decide.{Finite, dec_level, dec_expands}
use Rattle.theory.proofs.Find.{base}

-- A count of 1 for each live kind.
unfoldable pub alive : Normed → Field
alive N k = min 1 (N.w k)

-- The number of live kinds.
unfoldable pub size : Normed → ℕ
size N = weigh N.n (λ _. 1) (alive N)

-- The number of atoms: an atom's row has one token of the kind itself, any other row has none.
pub atoms : (N : Normed) (R : Field → Field → Type 0) (B : ℕ) → Base N R B → ℕ
atoms N R B D = weigh N.n (λ k. D.row k k) (alive N)

module _ (N : Normed) (R : Field → Field → Type 0) (B : ℕ) (W : Whole N B) (D : Base N R B) where
  own : (k : ℕ) → k < N.n → 0 < N.w k → (Atom D.row k × Prime N R k × (D.row k k ≡ 1)) ⊎ (D.row k k ≡ 0)
  own k h q = go (D.sort k h q (W k h)) (dec_lt 0 (D.row k k))
    where
      go : (Atom D.row k × Prime N R k) ⊎ Made N D.row k → Dec (0 < D.row k k) → (Atom D.row k × Prime N R k × (D.row k k ≡ 1)) ⊎ (D.row k k ≡ 0)
      go (inl a) u = inl (a.0, a.1, ap (λ (x : Field). x k) a.0 ∙ unit_same k)
      go (inr m) (yes u) = absurd (omega (arith, (m k u).2))
      go (inr m) (no u) = inr (omega arith)

  own_prime : (k : ℕ) → k < N.n → 0 < N.w k → Prime N R k → D.row k k ≡ 1
  own_prime k h q p = go (D.sort k h q (W k h))
    where
      go : (Atom D.row k × Prime N R k) ⊎ Made N D.row k → D.row k k ≡ 1
      go (inl a) = ap (λ (x : Field). x k) a.0 ∙ unit_same k
      go (inr m) = absurd (p (D.row k) (λ j u. let t = m j u in (t.0, t.1, t.2)) (D.rel k h q (W k h)))

  pub atoms_bound : atoms N R B D ≤ size N
  unfolding atoms alive size
  atoms_bound = weigh_mono N.n (λ k. D.row k k) (λ _. 1) (alive N) (λ k h q. small k (own k h (omega arith)))
    where
      small : (k : ℕ) → (Atom D.row k × Prime N R k × (D.row k k ≡ 1)) ⊎ (D.row k k ≡ 0) → D.row k k ≤ 1
      small k (inl a) = omega (arith, a.2)
      small k (inr z) = omega arith

  atoms_one : (k : ℕ) → k < N.n → 0 < N.w k → D.row k k ≡ 1 → 0 < atoms N R B D
  unfolding atoms alive
  atoms_one k h q e = omega (arith, rw e at (weigh_part N.n (λ i. D.row i i) (alive N) k h))

  pub atoms_some : Cong N R → (k : ℕ) → k < N.n → 0 < N.w k → 0 < atoms N R B D
  atoms_some C k h q = go (D.sort k h q (W k h))
    where
      go : (Atom D.row k × Prime N R k) ⊎ Made N D.row k → 0 < atoms N R B D
      go (inl a) = atoms_one k h q (ap (λ (x : Field). x k) a.0 ∙ unit_same k)
      go (inr m) =
          let e = C.norms (unit k) (D.row k) (D.rel k h q (W k h)) in
          let t = weigh_some N.n N.w (D.row k) (omega (arith, weigh_unit N.n N.w k h)) in
          let u = m t.0 t.2 in
          atoms_one t.0 u.0 u.1 (ap (λ (x : Field). x t.0) u.3 ∙ unit_same t.0)

pub atoms_more : (N : Normed) (R Q : Field → Field → Type 0) (B : ℕ) → Whole N B → (D : Base N R B) (E : Base N Q B) → ((a b : Field) → Q a b → R a b)
    → (j : ℕ) → j < N.n → 0 < N.w j → ¬ Atom D.row j → Prime N Q j → atoms N R B D < atoms N Q B E
unfolding atoms alive
atoms_more N R Q B W D E f j h q n p =
    weigh_less N.n (λ k. D.row k k) (λ k. E.row k k) (alive N) grows j h (omega arith) (strict (own N R B W D j h q))
  where
    grows : (k : ℕ) → k < N.n → 0 < min 1 (N.w k) → D.row k k ≤ E.row k k
    grows k u v = go (own N R B W D k u (omega arith))
      where
        go : (Atom D.row k × Prime N R k × (D.row k k ≡ 1)) ⊎ (D.row k k ≡ 0) → D.row k k ≤ E.row k k
        go (inl a) = omega (arith, a.2, own_prime N Q B W E k u (omega arith) (prime_less N R Q f k a.1))
        go (inr z) = omega arith

    strict : (Atom D.row j × Prime N R j × (D.row j j ≡ 1)) ⊎ (D.row j j ≡ 0) → D.row j j < E.row j j
    strict (inl a) = absurd (n a.0)
    strict (inr z) = omega (arith, own_prime N Q B W E j h q p)

module _ (N : Normed) (F : Finite N.on) where
  roof : ℕ → ℕ
  roof zero = 0
  roof (suc m) = roof m + suc (rank N m)

  roof_over : (m k : ℕ) → k < m → rank N k < roof m
  unfolding roof
  roof_over zero k h = absurd (omega arith)
  roof_over (suc m) k h = go (ℕ_discrete k m) (roof_over m k)
    where
      go : Dec (k ≡ m) → (k < m → rank N k < roof m) → rank N k < roof m + suc (rank N m)
      go (yes e) f = rw e (omega arith)
      go (no u) f = omega (arith, f (omega arith))

  -- A rank past every kind.
  pub past : ℕ
  past = roof N.n

  pub past_whole : Whole N past
  unfolding past
  past_whole k h = roof_over N.n k h

  pub level_low : (s : ℕ) (a b : Field) → level N s a b → Expands (Low N) (level N s) a b
  unfolding level
  level_low zero a b p = Down_out N (Alike N) (alike_cong N) a b p
  level_low (suc s) a b p = Down_out N (Next N (level N s)) (next_cong N (level N s) (level_cong N s)) a b p

  pub level_next : (s : ℕ) (a b : Field) → level N (suc s) a b → Next N (level N s) a b
  unfolding level
  level_next s a b p = Down_in N (Next N (level N s)) (next_cong N (level N s) (level_cong N s)) a b p

  -- The whole base at a stage.
  pub level_base : (s : ℕ) → Base N (level N s) past
  level_base s = base N F (level N s) (dec_level N F s) (level_cong N s) (level_low s) past

  pub level_atoms : ℕ → ℕ
  level_atoms s = atoms N (level N s) past (level_base s)

  abbrev pub Failing : ℕ → Type 0
  Failing s = (suc (level_atoms s) ≤ level_atoms (suc s)) × (0 < level_atoms s)

  -- A stage passes the test of its rows, or the next has more atoms.
  pub pass_or_grow : (s : ℕ) → Passes N (level N s) past (level_base s) ⊎ Failing s
  unfolding level_atoms
  pass_or_grow s = go (first_below (λ i j. rank N i < rank N j) (λ i j. dec_lt (rank N i) (rank N j)) (λ i h. omega arith) (λ i j k p q. omega arith) Ok dec_ok N.n)
    where
      D : Base N (level N s) past
      D = level_base s

      Ok : ℕ → Type 0
      Ok k = 0 < N.w k → Expands N.on (level N s) (unit k) (D.row k)

      dec_ok : (k : ℕ) → Dec (Ok k)
      dec_ok k = dec_implies (dec_lt 0 (N.w k)) (dec_expands N.on F (level N s) (dec_level N F s) (unit k) (D.row k))

      live_of : (k : ℕ) → ¬ Ok k → Dec (0 < N.w k) → 0 < N.w k
      live_of k n (yes q) = q
      live_of k n (no q) = absurd (n (λ h. absurd (q h)))

      go : ((k : ℕ) → k < N.n → Ok k) ⊎ ((j : ℕ) × (j < N.n) × (¬ Ok j) × ((k : ℕ) → k < N.n → rank N k < rank N j → Ok k))
          → Passes N (level N s) past D ⊎ ((suc (atoms N (level N s) past D) ≤ atoms N (level N (suc s)) past (level_base (suc s))) × (0 < atoms N (level N s) past D))
      go (inl f) = inl f
      go (inr t) =
          let j = t.0 in
          let q = live_of j t.2 (dec_lt 0 (N.w j)) in
          let fail : ¬ Expands N.on (level N s) (unit j) (D.row j) = λ x. t.2 (λ _. x) in
          let p = new_prime N (level N s) (level_cong N s) (level_low s) past D j t.1 (past_whole j t.1) q fail (λ k h u v. t.3 k h v u) in
          let same : ¬ Atom D.row j = λ e. fail (rw e (level_next_refl j)) in
          inr (
            atoms_more N (level N s) (level N (suc s)) past past_whole D (level_base (suc s)) (λ a b x. (level_next s a b x).0) j t.1 q same
                (prime_less N (Next N (level N s)) (level N (suc s)) (level_next s) j p),
            atoms_some N (level N s) past past_whole D (level_cong N s) j t.1 q,
          )
        where
          level_next_refl : (j : ℕ) → Expands N.on (level N s) (unit j) (unit j)
          level_next_refl j = ((next_cong N (level N s) (level_cong N s)).rfl (unit j)).1

  -- A stage whose rows pass is settled.
  pub passes_settled : (s : ℕ) → Passes N (level N s) past (level_base s) → Settled N (suc s)
  unfolding Stage
  passes_settled s P a b t u p =
      all_pass N (level N s) (level_cong N s) (level_low s) past (level_base s) P a b (tidy_within N past past_whole a t) (tidy_within N past past_whole b u) p

  level_bound : (s : ℕ) → level_atoms s ≤ size N
  unfolding level_atoms
  level_bound s = atoms_bound N (level N s) past past_whole (level_base s)

  -- The settled stage is at most the number of live kinds, or 1 where there are none.
  abbrev Ends : Type 0
  Ends = (t : ℕ) × (t < max 1 (size N)) × Settled N (suc t)

  small : (s : ℕ) → (s ≡ 0) ⊎ (suc s ≤ level_atoms s) → s < max 1 (size N)
  small s (inl z) = omega arith
  small s (inr z) = omega (arith, level_bound s)

  more : (s : ℕ) → Failing s → (s ≡ 0) ⊎ (suc s ≤ level_atoms s) → suc (suc s) ≤ level_atoms (suc s)
  more s x (inl z) = omega (arith, x.0, x.1)
  more s x (inr z) = omega (arith, x.0)

  settle_from : (f s : ℕ) → size N ≤ s + f → (s ≡ 0) ⊎ (suc s ≤ level_atoms s) → Ends
  settle_from zero s h v = go (pass_or_grow s)
    where
      go : Passes N (level N s) past (level_base s) ⊎ Failing s → Ends
      go (inl P) = (s, small s v, passes_settled s P)
      go (inr x) = absurd (omega (arith, more s x v, x.0, x.1, small s v, level_bound s))
  settle_from (suc f) s h v = go (pass_or_grow s) (settle_from f (suc s))
    where
      go : Passes N (level N s) past (level_base s) ⊎ Failing s → (size N ≤ suc s + f → (suc s ≡ 0) ⊎ (suc (suc s) ≤ level_atoms (suc s)) → Ends) → Ends
      go (inl P) r = (s, small s v, passes_settled s P)
      go (inr x) r = r (omega arith) (inr (more s x v))

  pub settles : Ends
  settles = settle_from (size N) 0 (omega arith) (inl refl)
