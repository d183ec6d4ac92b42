-- A base is found kind by kind, in the order of the kinds; the rows settle within n stages.
use mathlib.Core.Path.{◌≡◌, refl, ◌∙◌, ap, fun_ext}
use mathlib.Core.Logic.{◌⊎◌, inl, inr}
use Prim.Native.Nat.{ℕ, zero, suc, ◌+◌, ◌-◌, ◌<◌}
use native.Mathlib.Decide.{dec_lt, ℕ_discrete}
use native.Mathlib.Omega.{arith}
use Rattle.model.specs.Field.{Field, unit}
use Rattle.model.specs.Card.{Line}
use Rattle.theory.specs.Expansion.{Expands}
use Rattle.theory.proofs.Search.{some_below, dec_and}
use Rattle.theory.proofs.Normed.{Normed, Low, low_of}
use Rattle.theory.proofs.Stages.{Cong}
use Rattle.theory.proofs.Rank.{rank, rank_apart, Within, low_within}
use Rattle.theory.proofs.Base.{Base, Prime, Atom, Made, form, form_within, form_atoms, form_rel, unit_some}
use Rattle.theory.proofs.Unique.{candidate}
use Rattle.theory.proofs.Decide.{Finite, low_finite}

-- The rows with one replaced.
pick : {A : Type 0} → Dec A → Field → Field → Field
pick (yes _) x y = x
pick (no _) x y = y

pub set_row : (ℕ → Field) → ℕ → Field → ℕ → Field
set_row row k x i = pick (ℕ_discrete i k) x (row i)

pick_yes : {A : Type 0} (d : Dec A) (x y : Field) → A → pick d x y ≡ x
unfolding pick
pick_yes (yes _) x y a = refl
pick_yes (no n) x y a = absurd (n a)

pick_no : {A : Type 0} (d : Dec A) (x y : Field) → ¬ A → pick d x y ≡ y
unfolding pick
pick_no (yes a) x y n = absurd (n a)
pick_no (no _) x y n = refl

pub set_same : (row : ℕ → Field) (k : ℕ) (x : Field) → set_row row k x k ≡ x
unfolding set_row
set_same row k x = pick_yes (ℕ_discrete k k) x (row k) refl

pub set_other : (row : ℕ → Field) (k : ℕ) (x : Field) (i : ℕ) → ¬ (i ≡ k) → set_row row k x i ≡ row i
unfolding set_row
set_other row k x i n = pick_no (ℕ_discrete i k) x (row i) n

module _ (N : Normed) (R : Field → Field → Type 0) where
  pub no_rows : Base N R 0
  no_rows = record { row = unit; rel = λ k _ _ h. absurd (omega arith); sort = λ k _ _ h. absurd (omega arith) }

  -- A bound may rise over ranks that no kind has.
  pub rebound : (B H : ℕ) → ((k : ℕ) → k < N.n → 0 < N.w k → rank N k < H → rank N k < B) → Base N R B → Base N R H
  rebound B H f D = record {
    row = D.row;
    rel = λ k h q i. D.rel k h q (f k h q i);
    sort = λ k h q i. D.sort k h q (f k h q i);
  }

  -- The row of the next kind: an atom, or a product of earlier atoms.
  pub put : (k : ℕ) → k < N.n → (D : Base N R (rank N k)) (x : Field) → R (unit k) x
      → ((x ≡ unit k) × Prime N R k) ⊎ ((j : ℕ) → 0 < x j → (j < N.n) × (0 < N.w j) × (rank N j < rank N k) × Atom D.row j)
      → Base N R (suc (rank N k))
  put k h D x p s = record {
    row = row';
    rel = λ i u v w. rel' i u v w (ℕ_discrete i k);
    sort = λ i u v w. sort' i u v w (ℕ_discrete i k);
  }
    where
      row' : ℕ → Field
      row' = set_row D.row k x

      earlier : (i : ℕ) → i < N.n → rank N i < suc (rank N k) → ¬ (i ≡ k) → rank N i < rank N k
      earlier i u w n = go (dec_lt (rank N i) (rank N k))
        where
          go : Dec (rank N i < rank N k) → rank N i < rank N k
          go (yes r) = r
          go (no r) = absurd (omega (arith, rank_apart N i k u h n r))

      kept : (j : ℕ) → rank N j < rank N k → Atom D.row j → Atom row' j
      kept j r a = set_other D.row k x j (λ e. omega (arith, ap (rank N) e)) ∙ a

      rel' : (i : ℕ) → i < N.n → 0 < N.w i → rank N i < suc (rank N k) → Dec (i ≡ k) → R (unit i) (row' i)
      rel' i u v w (yes e) = rw (e, set_same D.row k x) p
      rel' i u v w (no n) = rw (set_other D.row k x i n) (D.rel i u v (earlier i u w n))

      new : ((x ≡ unit k) × Prime N R k) ⊎ ((j : ℕ) → 0 < x j → (j < N.n) × (0 < N.w j) × (rank N j < rank N k) × Atom D.row j)
          → (Atom row' k × Prime N R k) ⊎ Made N row' k
      new (inl a) = inl (set_same D.row k x ∙ a.0, a.1)
      new (inr m) = inr (λ j q. let t = m j (rw (set_same D.row k x) at q) in (t.0, t.1, t.2, kept j t.2 t.3))

      old : (i : ℕ) → rank N i < rank N k → ¬ (i ≡ k) → (Atom D.row i × Prime N R i) ⊎ Made N D.row i → (Atom row' i × Prime N R i) ⊎ Made N row' i
      old i r n (inl a) = inl (kept i r a.0, a.1)
      old i r n (inr m) = inr (λ j q. let t = m j (rw (set_other D.row k x i n) at q) in (t.0, t.1, t.2, kept j (omega (arith, t.2)) t.3))

      sort' : (i : ℕ) → i < N.n → 0 < N.w i → rank N i < suc (rank N k) → Dec (i ≡ k) → (Atom row' i × Prime N R i) ⊎ Made N row' i
      sort' i u v w (yes e) = rw e (new s)
      sort' i u v w (no n) = let r = earlier i u w n in old i r n (D.sort i u v r)

module _ (N : Normed) (F : Finite N.on) (R : Field → Field → Type 0) (d : (x y : Field) → Dec (R x y)) (C : Cong N R)
    (X : (a b : Field) → R a b → Expands (Low N) R a b) where
  -- The product that a low line m proposes for the kind of the low line l.
  unfoldable pub proposal : (B : ℕ) → Base N R B → Line → Line → Field
  proposal B D l m j = (unit m.kind j + form N R B D l.left j) - form N R B D m.left j

  module _ (k : ℕ) (h : k < N.n) (q : 0 < N.w k) (D : Base N R (rank N k)) (l : Line) (o : Low N l) (e : l.kind ≡ k) where
    abbrev Hit : Line → Type 0
    Hit m = ((rank N m.kind < rank N k) × (m.code ≡ l.code)) × R (unit k) (proposal (rank N k) D l m)

    dec_hit : (m : Line) → Dec (Hit m)
    dec_hit m = dec_and (dec_and (dec_lt (rank N m.kind) (rank N k)) (ℕ_discrete m.code l.code)) (d (unit k) (proposal (rank N k) D l m))

    left_in : Within N (rank N k) l.left
    left_in j i = let u = low_within N l o j i in (u.0, u.1, omega (arith, u.2, ap (rank N) e))

    proposal_in : (m : Line) → Low N m → rank N m.kind < rank N k → Within N (rank N k) (proposal (rank N k) D l m)
    unfolding proposal
    proposal_in m p r j i = go (dec_lt 0 (unit m.kind j))
      where
        go : Dec (0 < unit m.kind j) → (j < N.n) × (0 < N.w j) × (rank N j < rank N k)
        go (yes u) = let v = N.live m p.0 in rw (unit_some m.kind j u) (v.0, v.1, r)
        go (no u) = (form_within N R (rank N k) D (rank N k) l.left (omega arith) left_in).0 j (omega arith)

    missed : (¬ ((m : Line) × Low N m × Hit m)) → Prime N R k
    unfolding proposal
    missed n c w p =
        let x = form N R (rank N k) D c in
        let t = form_atoms N R (rank N k) D c w in
        let r : R (unit k) x = C.tr (unit k) c x p (form_rel N R (rank N k) D C X c w) in
        let g = candidate N R (rank N k) D C X k (omega arith) x t r l o e in
        let m = g.0 in
        let y = proposal (rank N k) D l m in
        let z : x ≡ y = fun_ext (λ j. omega (arith, ap (λ (f : Field). f j) g.4)) in
        n (m, g.1, (((t.0 m.kind g.2).2, g.3), (rw z at r)))

    pub extend : Base N R (suc (rank N k))
    extend = go (low_finite N F Hit dec_hit)
      where
        go : Dec ((m : Line) × Low N m × Hit m) → Base N R (suc (rank N k))
        go (no n) = put N R k h D (unit k) (C.rfl (unit k)) (inl (refl, missed n))
        go (yes g) =
            let c = proposal (rank N k) D l g.0 in
            let w = proposal_in g.0 g.1 g.2.0.0 in
            let t = form_atoms N R (rank N k) D c w in
            let r = C.tr (unit k) c (form N R (rank N k) D c) g.2.1 (form_rel N R (rank N k) D C X c w) in
            put N R k h D (form N R (rank N k) D c) r (inr (λ j i. let u = t.0 j i in (u.0, u.1, u.2, t.1 j i)))

  -- Every relation of this sort has a base, up to any rank.
  pub base : (B : ℕ) → Base N R B
  base zero = no_rows N R
  base (suc B) = go (base B) (some_below (λ k. (0 < N.w k) × (rank N k ≡ B)) (λ k. dec_and (dec_lt 0 (N.w k)) (ℕ_discrete (rank N k) B)) N.n)
    where
      go : Base N R B → ((k : ℕ) × (k < N.n) × ((0 < N.w k) × (rank N k ≡ B))) ⊎ ((k : ℕ) → k < N.n → ¬ ((0 < N.w k) × (rank N k ≡ B))) → Base N R (suc B)
      go D (inr n) = rebound N R B (suc B) (λ k h q i. low k h q i (ℕ_discrete (rank N k) B)) D
        where
          low : (k : ℕ) → k < N.n → 0 < N.w k → rank N k < suc B → Dec (rank N k ≡ B) → rank N k < B
          low k h q i (yes e) = absurd (n k h (q, e))
          low k h q i (no u) = omega arith
      go D (inl (k, h, t)) =
          let l = low_of N k h t.0 in
          rw (← t.1) (extend k h t.0 (rw t.1 D) l.0 l.1 l.2)
