-- A base is unique; primes by the largest bisimulation; a table of rows that passes the test.
use mathlib.Core.Path.{◌≡◌, refl, sym, ◌∙◌, ap, fun_ext}
use mathlib.Core.Logic.{◌⊎◌, inl, inr}
use Prim.Native.Nat.{ℕ, ◌<◌}
use native.Mathlib.Omega.{arith}
use Rattle.model.specs.Field.{Field, unit}
use Rattle.theory.specs.Expansion.{Expands}
use Rattle.theory.proofs.Field.{unit_same}
use Rattle.theory.proofs.Moves.{expands_map}
use Rattle.theory.proofs.Normed.{Normed, norm, extra, Low, Tidy}
use Rattle.theory.proofs.Stages.{Cong, Alike, Next, alike_cong, next_cong}
use Rattle.theory.proofs.Game.{Fine}
use Rattle.theory.proofs.Rank.{rank, Within, decomp, decomp_plus, decomp_unit, decomp_self, decomp_rel}
use Rattle.theory.proofs.Base.{Base, Prime, Atom, Made, Atoms, unit_some}
use Rattle.theory.proofs.Unique.{unique}
use Rattle.theory.proofs.Settle.{Whole, tidy_within, tidy_fire}

-- Two bases of one relation have the same rows.
module _ (N : Normed) (R : Field → Field → Type 0) (B : ℕ) (C : Cong N R) (X : (a b : Field) → R a b → Expands (Low N) R a b) where
  pub prime_atom : (D : Base N R B) (k : ℕ) → k < N.n → 0 < N.w k → rank N k < B → Prime N R k → Atom D.row k
  prime_atom D k h q i p = go (D.sort k h q i)
    where
      go : (Atom D.row k × Prime N R k) ⊎ Made N D.row k → Atom D.row k
      go (inl a) = a.0
      go (inr m) = absurd (p (D.row k) (λ j u. let t = m j u in (t.0, t.1, t.2)) (D.rel k h q i))

  pub atom_prime : (D : Base N R B) (k : ℕ) → k < N.n → 0 < N.w k → rank N k < B → Atom D.row k → Prime N R k
  atom_prime D k h q i a = go (D.sort k h q i)
    where
      go : (Atom D.row k × Prime N R k) ⊎ Made N D.row k → Prime N R k
      go (inl p) = p.1
      go (inr m) = absurd (omega (arith, (m k (rw a (omega (arith, unit_same k)))).2))

  pub row_atoms : (D E : Base N R B) (k : ℕ) → k < N.n → 0 < N.w k → rank N k < B → Atoms N R B D (E.row k)
  row_atoms D E k h q i = go (E.sort k h q i)
    where
      go : (Atom E.row k × Prime N R k) ⊎ Made N E.row k → Atoms N R B D (E.row k)
      go (inl a) = rw a.0 ((λ j u. rw (unit_some k j u) (h, q, i)), (λ j u. rw (unit_some k j u) (prime_atom D k h q i a.1)))
      go (inr m) = (
        (λ j u. let t = m j u in (t.0, t.1, omega (arith, t.2))),
        (λ j u. let t = m j u in let r : rank N j < B = omega (arith, t.2) in prime_atom D j t.0 t.1 r (atom_prime E j t.0 t.1 r t.3)),
      )

  pub rows_unique : (D E : Base N R B) (k : ℕ) → k < N.n → 0 < N.w k → rank N k < B → D.row k ≡ E.row k
  rows_unique D E k h q i =
      unique N R B D C X (D.row k) (E.row k) (row_atoms D D k h q i) (row_atoms D E k h q i)
      (C.tr (D.row k) (unit k) (E.row k) (C.sm (unit k) (D.row k) (D.rel k h q i)) (E.rel k h q i))

-- A table of rows, whoever made it: each row is the kind itself, or counts of earlier self-rowed kinds, of the kind's norm and second weight.
pub record Table (N : Normed) : Type 0 where
  pub row : ℕ → Field
  pub norms : (k : ℕ) → k < N.n → 0 < N.w k → norm N (row k) ≡ norm N (unit k)
  pub extras : (k : ℕ) → k < N.n → 0 < N.w k → extra N (row k) ≡ extra N (unit k)
  pub own : (k : ℕ) → k < N.n → 0 < N.w k → (j : ℕ) → 0 < row k j → (j < N.n) × (0 < N.w j) × Atom row j

module _ (N : Normed) (B : ℕ) (W : Whole N B) (A : Table N) where
  -- Equal forms under the table.
  abbrev pub Equal : Field → Field → Type 0
  Equal a b = decomp N A.row a ≡ decomp N A.row b

  Both : Field → Field → Type 0
  Both a b = Alike N a b × Equal a b

  both_cong : Cong N Both
  unfolding Both
  both_cong =
      let K = alike_cong N in
      record {
        rfl = λ a. (K.rfl a, refl);
        sm = λ a b p. (K.sm a b p.0, sym p.1);
        tr = λ a b c p q. (K.tr a b c p.0 q.0, p.1 ∙ q.1);
        plus = λ a b c d p q. (
          K.plus a b c d p.0 q.0,
          fun_ext (λ j.
              omega (arith, decomp_plus N A.row a c j, decomp_plus N A.row b d j, ap (λ (x : Field). x j) p.1, ap (λ (x : Field). x j) q.1)),
        );
        norms = λ a b p. p.0.0;
        extras = λ a b p. p.0.1;
      }

  row_both : (k : ℕ) → k < N.n → 0 < N.w k → Both (unit k) (A.row k)
  unfolding Both
  row_both k h q =
      let f : Within N B (A.row k) = λ j u. let t = A.own k h q j u in (t.0, t.1, W j t.0) in (
        (sym (A.norms k h q), sym (A.extras k h q)),
        decomp_unit N A.row k h ∙ sym (decomp_self N A.row B (A.row k) f (λ j u. (A.own k h q j u).2)),
      )

  -- Fields of live kinds with equal forms are alike.
  equal_both : (a b : Field) → Tidy N a → Tidy N b → Equal a b → Both a b
  unfolding Both
  equal_both a b t u e =
      let K = alike_cong N in
      let x = decomp N A.row a in
      let p = decomp_rel N (Alike N) K A.row B a (tidy_within N B W a t) (λ k h. let v = t k h in (row_both k v.0 v.1).0) in
      let q = decomp_rel N (Alike N) K A.row B b (tidy_within N B W b u) (λ k h. let v = u k h in (row_both k v.0 v.1).0) in
      (K.tr a x b p (K.sm b x (rw e q)), e)

  abbrev pub TidyEqual : Field → Field → Type 0
  TidyEqual a b = Tidy N a × Tidy N b × Equal a b

  -- If every kind's pair with its row satisfies expansion under the table, equal forms are bisimilar.
  pub table_bisimulation : ((k : ℕ) → k < N.n → 0 < N.w k → Expands N.on Equal (unit k) (A.row k)) → Fine N TidyEqual
  unfolding Fine Both
  table_bisimulation P = (
    (λ a b p. (both a b p).0.0.1),
    (λ a b p.
        expands_map N.on Both TidyEqual a b (λ l m o _ o' _ r. (tidy_fire N l a o p.0, tidy_fire N m b o' p.1, r.1)) (both a b p).1),
  )
    where
      unit_tidy : (k : ℕ) → k < N.n → 0 < N.w k → Tidy N (unit k)
      unit_tidy k h q j i = rw (unit_some k j i) (h, q)

      row_tidy : (k : ℕ) → k < N.n → 0 < N.w k → Tidy N (A.row k)
      row_tidy k h q j i = let t = A.own k h q j i in (t.0, t.1)

      passed : (k : ℕ) → k < N.n → 0 < N.w k → Next N Both (unit k) (A.row k)
      passed k h q = (
        row_both k h q,
        expands_map N.on Equal Both (unit k) (A.row k)
            (λ l m o _ o' _. equal_both _ _ (tidy_fire N l (unit k) o (unit_tidy k h q)) (tidy_fire N m (A.row k) o' (row_tidy k h q))) (P k h q),
      )

      both : (a b : Field) → TidyEqual a b → Next N Both a b
      both a b p =
          let K = next_cong N Both both_cong in
          let x = decomp N A.row a in
          let u = decomp_rel N (Next N Both) K A.row B a (tidy_within N B W a p.0) (λ k h. let v = p.0 k h in passed k v.0 v.1) in
          let v = decomp_rel N (Next N Both) K A.row B b (tidy_within N B W b p.1) (λ k h. let v = p.1 k h in passed k v.0 v.1) in
          K.tr a x b u (K.sm b x (rw p.2 v))
