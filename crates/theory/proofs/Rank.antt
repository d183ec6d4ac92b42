-- Kinds ordered by norm, then by number; decompositions.
use mathlib.Core.Path.{◌≡◌, ◌∙◌, ap, fun_ext}
use Prim.Native.Nat.{ℕ, zero, suc, ◌+◌, ◌*◌, ◌<◌}
use native.Mathlib.Nat.{mul-le-mul_right}
use native.Mathlib.Decide.{dec_lt}
use native.Mathlib.Omega.{arith}
use Rattle.model.specs.Field.{Field, none, ◌⊕◌, times, unit, weigh}
use Rattle.model.specs.Card.{Line}
use Rattle.theory.proofs.Field.{weigh_plus, weigh_unit, weigh_some, weigh_weights, weigh_outer, weigh_tokens}
use Rattle.theory.proofs.Normed.{Normed, Low, part_norm}
use Rattle.theory.proofs.Stages.{Cong}

module _ (N : Normed) where
  unfoldable pub rank : ℕ → ℕ
  rank k = N.w k * N.n + k

  pub rank_norm : (j k : ℕ) → j < N.n → N.w j < N.w k → rank j < rank k
  unfolding rank
  rank_norm j k h q = omega (arith, mul-le-mul_right N.n q)

  pub rank_number : (j k : ℕ) → N.w j ≡ N.w k → j < k → rank j < rank k
  unfolding rank
  rank_number j k e q = rw e (omega arith)

  pub rank_apart : (j k : ℕ) → j < N.n → k < N.n → ¬ (j ≡ k) → ¬ (rank j < rank k) → rank k < rank j
  rank_apart j k p q d h = go (dec_lt (N.w k) (N.w j)) (dec_lt (N.w j) (N.w k)) (dec_lt k j)
    where
      go : Dec (N.w k < N.w j) → Dec (N.w j < N.w k) → Dec (k < j) → rank k < rank j
      go (yes u) v i = rank_norm k j q u
      go (no u) (yes v) i = absurd (h (rank_norm j k p v))
      go (no u) (no v) (yes i) = rank_number k j (omega arith) i
      go (no u) (no v) (no i) = absurd (h (rank_number j k (omega arith) (omega arith)))

  -- A field of live kinds below a rank.
  abbrev pub Within : ℕ → Field → Type 0
  Within B a = (k : ℕ) → 0 < a k → (k < N.n) × (0 < N.w k) × (rank k < B)

  pub within_plus : (B : ℕ) (a b : Field) → Within B a → Within B b → Within B (a ⊕ b)
  within_plus B a b f g k h = go (dec_lt 0 (a k))
    where
      go : Dec (0 < a k) → (k < N.n) × (0 < N.w k) × (rank k < B)
      go (yes p) = f k p
      go (no p) = g k (omega arith)

  -- What a low line leaves is of kinds before its own.
  pub low_within : (l : Line) → Low N l → Within (rank l.kind) l.left
  low_within l o k h =
      let t = N.tidy l o.0 k h in
      (t.0, t.1, rank_norm k l.kind t.0 (omega (arith, part_norm N l.left k t.0 h, o.1)))

  unfoldable pub decomp : (ℕ → Field) → Field → Field
  decomp row a = λ j. weigh N.n (λ k. row k j) a

  pub decomp_plus : (row : ℕ → Field) (a b : Field) (j : ℕ) → decomp row (a ⊕ b) j ≡ decomp row a j + decomp row b j
  unfolding decomp
  decomp_plus row a b j = weigh_plus N.n (λ k. row k j) a b

  pub decomp_unit : (row : ℕ → Field) (k : ℕ) → k < N.n → decomp row (unit k) ≡ row k
  unfolding decomp
  decomp_unit row k h = fun_ext (λ j. weigh_unit N.n (λ i. row i j) k h)

  pub decomp_some : (row : ℕ → Field) (a : Field) (j : ℕ) → 0 < decomp row a j → (k : ℕ) × (k < N.n) × (0 < a k) × (0 < row k j)
  unfolding decomp
  decomp_some row a j h = weigh_some N.n (λ k. row k j) a h

  tokens : (B : ℕ) (a : Field) → Within B a → (j : ℕ) → weigh N.n (λ k. unit k j) a ≡ a j
  tokens B a f j = go (dec_lt j N.n) (dec_lt 0 (a j))
    where
      go : Dec (j < N.n) → Dec (0 < a j) → weigh N.n (λ k. unit k j) a ≡ a j
      go (yes q) p = weigh_tokens N.n j a q
      go (no q) (yes p) = absurd (q (f j p).0)
      go (no q) (no p) = rw (weigh_outer N.n j a (omega arith)) (omega arith)

  -- A field whose every token is its own row is its own decomposition.
  pub decomp_self : (row : ℕ → Field) (B : ℕ) (a : Field) → Within B a → ((k : ℕ) → 0 < a k → row k ≡ unit k) → decomp row a ≡ a
  unfolding decomp
  decomp_self row B a f g = fun_ext (λ j.
      weigh_weights N.n (λ k. row k j) (λ k. unit k j) a (λ k _ h. ap (λ (x : Field). x j) (g k h)) ∙ tokens B a f j)

  module _ (Q : Field → Field → Type 0) (C : Cong N Q) where
    times_rel : (c : ℕ) (x y : Field) → Q x y → Q (times c x) (times c y)
    times_rel zero x y q =
        let e : times zero x ≡ times zero y = fun_ext (λ j. omega arith) in
        rw e (C.rfl (times zero y))
    times_rel (suc c) x y q =
        let e : times (suc c) x ≡ times c x ⊕ x = fun_ext (λ j. omega arith) in
        let d : times (suc c) y ≡ times c y ⊕ y = fun_ext (λ j. omega arith) in
        rw (e, d) (C.plus (times c x) (times c y) x y (times_rel c x y q) q)

    sums_rel : (row : ℕ → Field) (a : Field) (m : ℕ) → ((k : ℕ) → k < m → 0 < a k → Q (unit k) (row k))
        → Q (λ j. weigh m (λ k. unit k j) a) (λ j. weigh m (λ k. row k j) a)
    unfolding weigh
    sums_rel row a zero h = C.rfl none
    sums_rel row a (suc m) h =
        C.plus (λ j. weigh m (λ k. unit k j) a) (λ j. weigh m (λ k. row k j) a) (times (a m) (unit m)) (times (a m) (row m))
        (sums_rel row a m (λ k q. h k (omega arith))) (go (dec_lt 0 (a m)))
      where
        go : Dec (0 < a m) → Q (times (a m) (unit m)) (times (a m) (row m))
        go (yes p) = times_rel (a m) (unit m) (row m) (h m (omega arith) p)
        go (no p) =
            let z : a m ≡ 0 = omega arith in
            let e : times (a m) (unit m) ≡ times (a m) (row m) = fun_ext (λ j. rw z (omega arith)) in
            rw e (C.rfl (times (a m) (row m)))

    -- A field is related to its decomposition where its kinds are.
    pub decomp_rel : (row : ℕ → Field) (B : ℕ) (a : Field) → Within B a → ((k : ℕ) → 0 < a k → Q (unit k) (row k)) → Q a (decomp row a)
    unfolding decomp
    decomp_rel row B a f h =
        let e : (λ j. weigh N.n (λ k. unit k j) a) ≡ a = fun_ext (λ j. tokens B a f j) in
        rw e at (sums_rel row a N.n (λ k _. h k))
