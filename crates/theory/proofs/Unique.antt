-- Two products of atoms that are related are equal, so that the relation is equality of forms.
use mathlib.Core.Path.{◌≡◌, sym, ◌∙◌, ap, fun_ext}
use mathlib.Core.Logic.{◌↔◌, ◌⊎◌, inl, inr}
use Prim.Native.Nat.{ℕ, zero, suc, ◌+◌, ◌≤◌, ◌<◌}
use native.Mathlib.Nat.{mul-le-mul_left}
use native.Mathlib.Decide.{dec_lt, ℕ_discrete}
use native.Mathlib.Omega.{arith}
use Rattle.model.specs.Field.{Field, ◌⊕◌, unit}
use Rattle.model.specs.Card.{Line, fire}
use Rattle.theory.specs.Expansion.{Expands}
use Rattle.theory.proofs.Search.{some_below, first_below, dec_and, dec_not}
use Rattle.theory.proofs.Field.{unit_same, unit_other, weigh_part}
use Rattle.theory.proofs.Moves.{fire_split}
use Rattle.theory.proofs.Normed.{Normed, norm, Low, fire_low, low_of}
use Rattle.theory.proofs.Stages.{Cong}
use Rattle.theory.proofs.Rank.{rank, rank_apart, Within, low_within}
use Rattle.theory.proofs.Base as base
use Rattle.theory.proofs.Base.{Base, Prime, Atom, Made, unit_some}

zero_of : (n : ℕ) → ¬ (0 < n) → n ≡ 0
zero_of n h = omega arith

-- The fields agree below m, or differ at a kind above which, by rank, they agree.
top : (r : ℕ → ℕ) (a b : Field) (m : ℕ)
    → ((k : ℕ) → k < m → a k ≡ b k) ⊎ ((j : ℕ) × (j < m) × (¬ (a j ≡ b j)) × ((k : ℕ) → k < m → r j < r k → a k ≡ b k))
top r a b m =
    first_below (λ i j. r j < r i) (λ i j. dec_lt (r j) (r i)) (λ i h. omega arith) (λ i j k p q. omega arith)
    (λ k. a k ≡ b k) (λ k. ℕ_discrete (a k) (b k)) m

module _ (N : Normed) (R : Field → Field → Type 0) (B : ℕ) (D : Base N R B) (C : Cong N R) (X : (a b : Field) → R a b → Expands (Low N) R a b) where
  -- Products of atoms, and the form of a field, by this base.
  abbrev Atoms : Field → Type 0
  Atoms a = base.Atoms N R B D a

  abbrev form : Field → Field
  form a = base.form N R B D a

  form_atoms : (a : Field) → Within N B a → Atoms (form a)
  form_atoms = base.form_atoms N R B D

  form_rel : (a : Field) → Within N B a → R a (form a)
  form_rel = base.form_rel N R B D C X

  within_fire : (l : Line) (a : Field) → Low N l → 0 < a l.kind → Within N B a → Within N B (fire l a)
  within_fire = base.within_fire N R B D

  -- The reply that a related product of atoms has for a low challenge of an atom. What the two lines leave, in atoms, is
  -- what the two products differ by.
  record Swap (a b : Field) (l : Line) : Type 0 where
    line : Line
    low : Low N line
    can : 0 < b line.kind
    code : line.code ≡ l.code
    even : (j : ℕ) → a j + form l.left j + unit line.kind j ≡ b j + form line.left j + unit l.kind j

  -- Products of atoms of a norm below that of a are equal where they are related.
  abbrev Unique : ℕ → Type 0
  Unique m = (x y : Field) → norm N x < m → Atoms x → Atoms y → R x y → (j : ℕ) → x j ≡ y j

  fired : (a : Field) (l : Line) → Atoms a → Low N l → 0 < a l.kind → (j : ℕ)
      → form (fire l a) j + unit l.kind j ≡ a j + form l.left j
  fired a l t o h j =
      let k = l.kind in
      let e : form (fire l a ⊕ unit k) j ≡ form (a ⊕ l.left) j = ap (λ (x : Field). form x j) (fire_split l a h) in
      let u : form (unit k) j ≡ unit k j =
      ap (λ (x : Field). x j) (base.form_unit N R B D k (t.0 k h).0 ∙ t.1 k h) in
      let s : form a j ≡ a j = ap (λ (x : Field). x j) (base.form_self N R B D a t) in
      omega (arith, base.form_plus N R B D (fire l a) (unit k) j, base.form_plus N R B D a l.left j)

  swap : (a b : Field) → Atoms a → Atoms b → R a b → Unique (norm N a) → (l : Line) → Low N l → 0 < a l.kind → Swap a b l
  swap a b t v p f l o h =
      let r = (X a b p).0 l o h in
      let x = fire l a in
      let y = fire r.line b in
      let i = within_fire l a o h t.0 in
      let i' = within_fire r.line b r.on r.can v.0 in
      let q : R (form x) (form y) = C.tr (form x) x (form y) (C.sm x (form x) (form_rel x i)) (C.tr x y (form y) r.rel (form_rel y i')) in
      let z : norm N (form x) < norm N a = omega (arith, C.norms x (form x) (form_rel x i), fire_low N l a o h) in
      record {
        line = r.line;
        low = r.on;
        can = r.can;
        code = r.same;
        even = λ j.
            omega (
              arith,
              f (form x) (form y) z (form_atoms x i) (form_atoms y i') q j,
              fired a l t o h j,
              fired b r.line v r.on r.can j,
            );
      }

  -- What a low line leaves has no atom of its kind's rank or above, and not too many of any.
  left_none : (l : Line) → Low N l → rank N l.kind < B → (j : ℕ) → ¬ (rank N j < rank N l.kind) → form l.left j ≡ 0
  left_none l o i j h = go (dec_lt 0 (form l.left j))
    where
      go : Dec (0 < form l.left j) → form l.left j ≡ 0
      go (yes p) = absurd (h ((base.form_within N R B D (rank N l.kind) l.left (omega arith) (low_within N l o)).0 j p).2)
      go (no p) = omega arith

  left_small : (l : Line) → Low N l → rank N l.kind < B → (j : ℕ) → j < N.n → 0 < N.w j → form l.left j < N.w l.kind
  left_small l o i j h p =
      let f : Within N B l.left = λ k q. let u = low_within N l o k q in (u.0, u.1, omega (arith, u.2)) in
      omega (
        arith,
        weigh_part N.n N.w (form l.left) j h,
        mul-le-mul_left (form l.left j) p,
        C.norms l.left (form l.left) (form_rel l.left f),
        o.1,
      )

  module _ (a b : Field) (t : Atoms a) (v : Atoms b) (p : R a b) (f : Unique (norm N a)) (j : ℕ) (more : b j < a j)
      (high : (k : ℕ) → k < N.n → rank N j < rank N k → a k ≡ b k) where
    -- Case I: a token of an earlier kind makes a low read.
    case_one : (l : Line) → Low N l → 0 < a l.kind → rank N l.kind < rank N j → ⊥
    case_one l o h q = go (dec_lt (rank N j) (rank N m))
      where
        s : Swap a b l
        s = swap a b t v p f l o h

        m : ℕ
        m = s.line.kind

        go : Dec (rank N j < rank N m) → ⊥
        go (yes u) =
            let c = v.0 m s.can in
            omega (
              arith,
              s.even m,
              high m c.0 u,
              left_none s.line s.low c.2 m (λ w. omega arith),
              unit_same m,
              unit_other l.kind m (λ e. omega (arith, ap (rank N) e)),
            )
        go (no u) =
            omega (
              arith,
              s.even j,
              left_none s.line s.low (v.0 m s.can).2 j u,
              unit_other l.kind j (λ e. omega (arith, ap (rank N) e)),
            )

    -- Case II: a token of a later kind makes low reads that leave ever more of j.
    climb : (k : ℕ) → 0 < a k → rank N j < rank N k → (c : ℕ) → (l : Line) × Low N l × (l.kind ≡ k) × (c ≤ form l.left j)
    climb k h q zero = let u = t.0 k h in let l = low_of N k u.0 u.1 in (l.0, l.1, l.2, omega arith)
    climb k h q (suc c) = up (climb k h q c)
      where
        up : (l : Line) × Low N l × (l.kind ≡ k) × (c ≤ form l.left j) → (l : Line) × Low N l × (l.kind ≡ k) × (suc c ≤ form l.left j)
        up (l, o, e, i) =
            let s = swap a b t v p f l o (rw e h) in
            let m = s.line.kind in
            let u = t.0 k h in
            let d : k ≡ m = unit_some m k (omega (
              arith,
              s.even k,
              high k u.0 q,
              ap (λ x. unit x k) e,
              unit_same k,
              left_none l o (rw e u.2) k (rw e (λ w. omega arith)),
            )) in
            (s.line, s.low, sym d, omega (arith, s.even j, ap (λ x. unit x j) (e ∙ d)))

    case_two : (k : ℕ) → 0 < a k → rank N j < rank N k → ⊥
    case_two k h q =
        let u = t.0 j (omega arith) in
        let l = climb k h q (N.w k) in
        omega (arith, left_small l.0 l.1 (rw l.2 (t.0 k h).2) j u.0 u.1, l.3, ap N.w l.2)

    -- Case III: a power of j. If b has a token of j too, b makes a low read through it.
    three_both : ((k : ℕ) → k < N.n → ¬ (k ≡ j) → a k ≡ 0) → 0 < b j → (l : Line) → Low N l → l.kind ≡ j → ⊥
    three_both z h l o e = go (ℕ_discrete m j)
      where
        s : Swap b a l
        s = swap b a v t (C.sm a b p) (rw (C.norms a b p) at f) l o (rw e h)

        m : ℕ
        m = s.line.kind

        go : Dec (m ≡ j) → ⊥
        go (no d) = omega (arith, z m (t.0 m s.can).0 d, s.can)
        go (yes d) =
            omega (arith, s.even j, ap (λ x. unit x j) (d ∙ sym e), left_none l o (rw e (t.0 j (omega arith)).2) j (rw e (λ w. omega arith)))

    -- Otherwise b is of earlier kinds alone, and the power is the first.
    module _ (z : (k : ℕ) → k < N.n → ¬ (k ≡ j) → a k ≡ 0) (h : ¬ (0 < b j)) where
      before : (k : ℕ) → 0 < b k → rank N k < rank N j
      before k q = go (dec_lt (rank N j) (rank N k)) (ℕ_discrete j k)
        where
          go : Dec (rank N j < rank N k) → Dec (j ≡ k) → rank N k < rank N j
          go i (yes e) = absurd (h (rw e q))
          go (yes i) (no d) = absurd (omega (arith, high k (v.0 k q).0 i, z k (v.0 k q).0 (λ e. d (sym e))))
          go (no i) (no d) = rank_apart N j k (t.0 j (omega arith)).0 (v.0 k q).0 d i

      single : (l : Line) → Low N l → l.kind ≡ j → a j ≡ 1
      single l o e =
          let s = swap a b t v p f l o (rw e (omega arith)) in
          let m = s.line.kind in
          let i = before m s.can in
          omega (arith, s.even j, left_none s.line s.low (v.0 m s.can).2 j (λ w. omega arith), ap (λ x. unit x j) e, unit_same j)

      is_unit : a j ≡ 1 → (k : ℕ) → a k ≡ unit j k
      is_unit e k = go (ℕ_discrete k j) (dec_lt 0 (a k))
        where
          go : Dec (k ≡ j) → Dec (0 < a k) → a k ≡ unit j k
          go (yes d) q = rw d (omega (arith, unit_same j))
          go (no d) (no q) = omega (arith, unit_other j k d)
          go (no d) (yes q) = omega (arith, unit_other j k d, z k (t.0 k q).0 d)

      three_alone : (l : Line) → Low N l → l.kind ≡ j → ⊥
      three_alone l o e = go (D.sort j u.0 u.1 u.2)
        where
          u : (j < N.n) × (0 < N.w j) × (rank N j < B)
          u = t.0 j (omega arith)

          go : (Atom D.row j × Prime N R j) ⊎ Made N D.row j → ⊥
          go (inl q) =
              q.1 b (λ k i. let c = v.0 k i in (c.0, c.1, before k i)) (rw (fun_ext (is_unit (single l o e))) at p)
          go (inr q) =
              let i : 0 < D.row j j = rw (t.1 j (omega arith)) (omega (arith, unit_same j)) in
              omega (arith, (q j i).2)

    case_three : ((k : ℕ) → k < N.n → ¬ (k ≡ j) → a k ≡ 0) → ⊥
    case_three z = go (dec_lt 0 (b j))
      where
        go : Dec (0 < b j) → ⊥
        go (yes h) = let u = t.0 j (omega arith) in let l = low_of N j u.0 u.1 in three_both z h l.0 l.1 l.2
        go (no h) = let u = t.0 j (omega arith) in let l = low_of N j u.0 u.1 in three_alone z h l.0 l.1 l.2

    beaten : ⊥
    beaten = go (some_below (λ k. (¬ (k ≡ j)) × (0 < a k)) (λ k. dec_and (dec_not (ℕ_discrete k j)) (dec_lt 0 (a k))) N.n)
      where
        go : ((k : ℕ) × (k < N.n) × ((¬ (k ≡ j)) × (0 < a k))) ⊎ ((k : ℕ) → k < N.n → ¬ ((¬ (k ≡ j)) × (0 < a k))) → ⊥
        go (inr z) = case_three (λ k h d. zero_of (a k) (λ p. z k h (d, p)))
        go (inl s) = side (dec_lt (rank N j) (rank N s.0))
          where
            k : (s.0 < N.n) × (0 < N.w s.0) × (rank N s.0 < B)
            k = t.0 s.0 s.2.1

            l : (l : Line) × Low N l × (l.kind ≡ s.0)
            l = low_of N s.0 k.0 k.1

            side : Dec (rank N j < rank N s.0) → ⊥
            side (yes q) = case_two s.0 s.2.1 q
            side (no q) = case_one l.0 l.1 (rw l.2 s.2.1)
                (rw l.2 (rank_apart N j s.0 (t.0 j (omega arith)).0 k.0 (λ e. s.2.0 (sym e)) q))

  unique_step : (a b : Field) → Unique (norm N a) → Atoms a → Atoms b → R a b → (k : ℕ) → a k ≡ b k
  unique_step a b f t v p k = go (top (rank N) a b N.n)
    where
      go : ((i : ℕ) → i < N.n → a i ≡ b i) ⊎ ((j : ℕ) × (j < N.n) × (¬ (a j ≡ b j)) × ((i : ℕ) → i < N.n → rank N j < rank N i → a i ≡ b i)) → a k ≡ b k
      go (inl g) = pick (dec_lt 0 (a k)) (dec_lt 0 (b k))
        where
          pick : Dec (0 < a k) → Dec (0 < b k) → a k ≡ b k
          pick (yes q) r = g k (t.0 k q).0
          pick (no q) (yes r) = g k (v.0 k r).0
          pick (no q) (no r) = omega arith
      go (inr d) = pick (dec_lt (b d.0) (a d.0))
        where
          pick : Dec (b d.0 < a d.0) → a k ≡ b k
          pick (yes q) = absurd (beaten a b t v p f d.0 q d.3)
          pick (no q) = absurd (beaten b a v t (C.sm a b p) (rw (C.norms a b p) at f) d.0 (omega (arith, d.2)) (λ i h r. sym (d.3 i h r)))

  unique_below : (m : ℕ) → Unique m
  unique_below zero x y h = absurd (omega arith)
  unique_below (suc m) x y h = unique_step x y (λ u v q. unique_below m u v (omega arith))

  -- Condition (d) of Lemma 5: related products of atoms are equal.
  pub unique : (a b : Field) → Atoms a → Atoms b → R a b → a ≡ b
  unique a b t v p = fun_ext (unique_below (suc (norm N a)) a b (omega arith) t v p)

  -- The relation is equality of forms.
  pub form_iff : (a b : Field) → Within N B a → Within N B b → R a b ↔ (form a ≡ form b)
  form_iff a b i i' =
      let x = form a in
      let y = form b in (
        (λ p. unique x y (form_atoms a i) (form_atoms b i') (C.tr x a y (C.sm a x (form_rel a i)) (C.tr a b y p (form_rel b i')))),
        (λ e. C.tr a x b (form_rel a i) (C.sm b x (rw e (form_rel b i')))),
      )

  -- The candidates for a kind's row: if a product of earlier atoms is related to it, one of the low lines of those atoms
  -- tells which product that is, whatever low line of the kind is asked.
  pub candidate : (k : ℕ) → rank N k ≤ B → (c : Field) → Atoms c → R (unit k) c → (l : Line) → Low N l → l.kind ≡ k
      → (m : Line) × Low N m × (0 < c m.kind) × (m.code ≡ l.code) × (c ⊕ form m.left ≡ unit m.kind ⊕ form l.left)
  candidate k i c t p l o e =
      let r = (X (unit k) c p).0 l o (rw e (omega (arith, unit_same k))) in
      let m = r.line in
      let d : fire l (unit k) ≡ l.left = fun_ext (λ j. omega (arith, ap (λ x. unit x j) e)) in
      let f : Within N B l.left = λ j h. let u = low_within N l o j h in (u.0, u.1, omega (arith, u.2, ap (rank N) e)) in
      let q = (form_iff l.left (fire m c) f (within_fire m c r.on r.can t.0)).0 (rw d at r.rel) in
      (m, r.on, r.can, r.same, fun_ext (λ j. omega (arith, fired c m t r.on r.can j, ap (λ (x : Field). x j) q)))
