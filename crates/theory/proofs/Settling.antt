-- The stages, the rows and the settled stage of an accepted sheet are those of the papers, in each sense.
use mathlib.Core.List.{List}
use mathlib.Core.Logic.{◌↔◌, ◌⊎◌, inl, inr}
use mathlib.Core.Path.{◌≡◌, sym, ◌∙◌, ap}
use Prim.Native.Nat.{ℕ, zero, suc, ◌≤◌, ◌<◌}
use native.Mathlib.Decide.{dec_lt}
use native.Mathlib.Omega.{arith}
use lib.Dec.{T}
use Rattle.model.specs.Field.{Field, none, unit}
use Rattle.model.specs.Card.{Card, Reached}
use Rattle.model.specs.Norm.{kind_norm}
use Rattle.model.specs.Sense.{Sense}
use Rattle.model.specs.Stage.{equal_in, stage_in}
use Rattle.model.specs.Base.{row, settled_stage_in, settled_row_in}
use Rattle.theory.specs.Terms.{Earlier, Before, BaseOf, SettledIn, OnReached, OfKinds}
use Rattle.theory.specs.Meanings.{Settles, Primes}
use Rattle.model.specs.Sheet.{card_of}
use Rattle.model.specs.Refusal.{Accepted}
use Rattle.theory.proofs.Moves.{expands_mono, weigh_fire}
use Rattle.theory.proofs.Normed.{Normed}
use Rattle.theory.proofs.Stages.{Stage, level, level_cong}
use Rattle.theory.proofs.Rank.{rank, Within}
use Rattle.theory.proofs.Base.{Base, Prime, Atom, Made, unit_some}
use Rattle.theory.proofs.Settle.{Settled as SettledAt}
use Rattle.theory.proofs.Decide.{Finite}
use Rattle.theory.proofs.Count.{past, past_whole, level_low, level_base}
use Rattle.theory.proofs.Further.{rows_unique, atom_prime, prime_atom}
use Rattle.theory.proofs.Exec.{Tells}
use Rattle.theory.proofs.Certified.{Found, gain_most, under}
use Rattle.theory.proofs.Reach.{all_expands, expands_reached}
use Rattle.theory.proofs.Rows.{finite, order_iff, row_is, row_out}
use Rattle.theory.proofs.Senses.{weight_of, normed_in, tidy, of_tidy, tells_start, tells_in, stages}
use Rattle.theory.proofs.Paper.{stages_only}
use Rattle.theory.proofs.Sheets.{certified}
use Rattle.theory.proofs.Gain.{is_gain}
use Rattle.theory.proofs.Verdicts
use Rattle.theory.proofs.Verdicts.{L, q, R, B, D, prime_iff}

module _ (m : Sense) (c : Card) (F : Found c (kind_norm c)) where
  abbrev w : ℕ → ℕ
  w = kind_norm c

  abbrev pub N : Normed
  N = normed_in m c (kind_norm c) F

  abbrev pub fin : Finite N.on
  fin = finite c w (weight_of m) F (equal_in m c w) (tells_start m c w F)

  abbrev Test : ℕ → Field → Field → Type 0
  Test s a b = T (stage_in m c w s a b)

  abbrev found : ℕ → ℕ → Field
  found q k = row c w (stage_in m c w) (suc q) k

  num : (k : ℕ) → Reached c k → k < c.kinds
  num k v = under c w F k v

  pub row_of : (q k : ℕ) → Reached c k → found q k ≡ (level_base N fin q).row k
  unfolding stage_in
  row_of q k h = row_is c w (weight_of m) F (equal_in m c w) (tells_start m c w F) q k h

  pub out_row : (s k : ℕ) → ¬ Reached c k → row c w (stage_in m c w) s k ≡ none
  unfolding stage_in
  out_row s k n = row_out c w (weight_of m) F (equal_in m c w) (tells_start m c w F) s k n

  tells_level : (q : ℕ) (a b : Field) → Tells (stage_in m c w (suc q) a b) (level N q a b)
  unfolding Stage
  tells_level q a b = tells_in m c w F (suc q) a b

  order : (k j : ℕ) → k < c.kinds → j < c.kinds → Earlier c j k ↔ (rank N j < rank N k)
  order k j h i = order_iff c w (weight_of m) F (equal_in m c w) (tells_start m c w F) k j h i

  pub within : (k : ℕ) → Reached c k → (a : Field) → Before c k a → Within N (rank N k) a
  within k h a f j i = let u = f j i in (num j u.0, F.positive j u.0, (order k j (num k h) (num j u.0)).0 u.1)

  pub before : (k : ℕ) → Reached c k → (a : Field) → Within N (rank N k) a → Before c k a
  before k h a f j i = let u = f j i in (F.out j u.1, (order k j (num k h) u.0).1 u.2)

  pub base : (q : ℕ) → BaseOf c (Test (suc q)) (found q)
  base q = record {
    related = λ k h. (tells_level q (unit k) (found q k)).test (rw (row_of q k h) (D.rel k (num k h) (F.positive k h) (past_whole N fin k (num k h))));
    counts = λ k h. sort k h (D.sort k (num k h) (F.positive k h) (past_whole N fin k (num k h)));
  }
    where
      D : Base N (level N q) (past N fin)
      D = level_base N fin q

      sort : (k : ℕ) → Reached c k → (Atom D.row k × Prime N (level N q) k) ⊎ Made N D.row k
          → ((found q k ≡ unit k) × ((a : Field) → Before c k a → ¬ Test (suc q) (unit k) a)) ⊎ (Before c k (found q k) × ((j : ℕ) → 0 < found q k j → found q j ≡ unit j))
      sort k h (inl p) = inl (row_of q k h ∙ p.0, λ a f t. p.1 a (within k h a f) ((tells_level q (unit k) a).fact t))
      sort k h (inr d) = inr (
        before k h (found q k) (λ j i. let u = made j i in (u.0, u.1, u.2)),
        (λ j i. let u = made j i in row_of q j (F.out j u.1) ∙ u.3),
      )
        where
          made : (j : ℕ) → 0 < found q k j → (j < N.n) × (0 < N.w j) × (rank N j < rank N k) × Atom D.row j
          made j i = d j (rw (ap (λ (x : Field). x j) (row_of q k h)) at i)

  -- A row is of reached kinds.
  pub row_kinds : (q k : ℕ) → Reached c k → OfKinds c (found q k)
  row_kinds q k h j i = go ((base q).counts k h)
    where
      go : {A B : Type 0} → ((found q k ≡ unit k) × A) ⊎ (Before c k (found q k) × B) → Reached c j
      go (inl p) = rw (unit_some k j (rw (ap (λ (f : Field). f j) p.0) at i)) h
      go (inr p) = (p.0 j i).0

  only : (q : ℕ) (rows : ℕ → Field) → BaseOf c (Test (suc q)) rows → (k : ℕ) → Reached c k → rows k ≡ found q k
  only q rows X k h =
      rows_unique N (level N q) (past N fin) (level_cong N q) (level_low N fin q) other (level_base N fin q) k (num k h) (F.positive k h) (past_whole N fin k (num k h)) ∙ sym (row_of q k h)
    where
      sort : (k : ℕ) → Reached c k → ((rows k ≡ unit k) × ((a : Field) → Before c k a → ¬ Test (suc q) (unit k) a)) ⊎ (Before c k (rows k) × ((j : ℕ) → 0 < rows k j → rows j ≡ unit j))
          → (Atom rows k × Prime N (level N q) k) ⊎ Made N rows k
      sort k h (inl p) = inl (p.0, λ a f t. p.1 a (before k h a f) ((tells_level q (unit k) a).test t))
      sort k h (inr p) = inr (λ j i. let u = within k h (rows k) p.0 j i in (u.0, u.1, u.2, p.1 j i))

      other : Base N (level N q) (past N fin)
      other = record {
        row = rows;
        rel = λ k _ p _. (tells_level q (unit k) (rows k)).fact (X.related k (F.out k p));
        sort = λ k _ p _. let v = F.out k p in sort k v (X.counts k v);
      }

  pub settled_to : (s : ℕ) → SettledAt N s → SettledIn m c s
  settled_to s f a b u v t =
      all_expands c (Test s) a b u v
      (expands_mono (OnReached c) (Stage N s) (Test s) (λ x y. (tells_in m c w F s x y).test) a b (f a b (tidy m c w F a u) (tidy m c w F b v) ((tells_in m c w F s a b).fact t)))

  to_settled : (s : ℕ) → SettledIn m c s → SettledAt N s
  to_settled s f a b u v t =
      let u' = of_tidy m c w F a u in
      let v' = of_tidy m c w F b v in
      expands_mono (OnReached c) (Test s) (Stage N s) (λ x y. (tells_in m c w F s x y).fact) a b
      (expands_reached c (Test s) a b u' v' (f a b u' v' ((tells_in m c w F s a b).test t)))

-- Of an accepted sheet.
pub sheet_settles : (m : Sense) (s : List ℕ) → Accepted s → Settles m (card_of s)
sheet_settles m s ok = record {
  stages = stages m c (kind_norm c) F;
  stages_only = λ S X. stages_only m c (kind_norm c) F S (λ s a b. T (stage_in m c (kind_norm c) s a b)) X (stages m c (kind_norm c) F);
  out_row = out_row m c F;
  nothing = λ n. let z = F.reach.none_iff.1 n in omega (arith, (L m s ok).most, (L m s ok).is);
  base = base m c F;
  only = only m c F;
  final = rw (L m s ok).is (base m c F (L m s ok).before);
  from = rw (L m s ok).is (omega arith);
  most = (L m s ok).most;
  settled = settled_to m c F _ (L m s ok).settled;
  least = λ q h i f. first q h i f;
  gain_most = λ l a o h.
      omega (arith, weigh_fire c.kinds (kind_norm c) l a (F.kinds l o.0) h, gain_most c.kinds (kind_norm c) l ((F.reach.lines_iff l).1 o));
  is_gain = is_gain s ok;
  lowers_iff = λ l a o h.
      let e = weigh_fire c.kinds (kind_norm c) l a (F.kinds l o) h in
      ((λ x. ((o, F.out l.kind (omega arith)), omega arith)), (λ x. omega (arith, x.1)));
}
  where
    c : Card
    c = card_of s

    F : Found c (kind_norm c)
    F = certified s ok

    first : (q : ℕ) → 1 ≤ q → q < settled_stage_in m (card_of s) → ¬ SettledIn m c q
    first zero h i f = omega arith
    first (suc q) h i f = (L m s ok).least q i (to_settled m c F (suc q) f)

-- The settled stage is the only stage that is so.
pub settled_only : (m : Sense) (s : List ℕ) → Accepted s → (t : ℕ) → 1 ≤ t → SettledIn m (card_of s) t → ((q : ℕ) → 1 ≤ q → q < t → ¬ SettledIn m (card_of s) q) → t ≡ settled_stage_in m (card_of s)
settled_only m s ok t h x f = go (dec_lt t (settled_stage_in m (card_of s))) (dec_lt (settled_stage_in m (card_of s)) t)
  where
    S : Settles m (card_of s)
    S = sheet_settles m s ok

    go : Dec (t < settled_stage_in m (card_of s)) → Dec (settled_stage_in m (card_of s) < t) → t ≡ settled_stage_in m (card_of s)
    go (yes i) j = absurd (S.least t h i x)
    go (no i) (yes j) = absurd (f (settled_stage_in m (card_of s)) S.from j S.settled)
    go (no i) (no j) = omega arith

module _ (m : Sense) (s : List ℕ) (ok : Accepted s) where
  -- The row that is settled is the base's at the stage before.
  pub settled_row_is : (k : ℕ) → Reached (card_of s) k → settled_row_in m (card_of s) k ≡ (D m s ok).row k
  settled_row_is k h = rw (L m s ok).is (row_of m (card_of s) (certified s ok) (q m s ok) k h)

  pub sheet_primes {ℓ} : Primes {ℓ} m (card_of s)
  sheet_primes = record {
    own_row = λ k h.
        let pos = (certified s ok).positive k h in
        let i = under (card_of s) (kind_norm (card_of s)) (certified s ok) k h in
        let W = past_whole (Verdicts.N m s ok) (Verdicts.fin m s ok) k i in
        let C = level_cong (Verdicts.N m s ok) (q m s ok) in
        let X = level_low (Verdicts.N m s ok) (Verdicts.fin m s ok) (q m s ok) in (
          (λ e. (prime_iff m s ok k h).0 (atom_prime (Verdicts.N m s ok) (R m s ok) (B m s ok) C X (D m s ok) k i pos W (sym (settled_row_is k h) ∙ e))),
          (λ p. settled_row_is k h ∙ prime_atom (Verdicts.N m s ok) (R m s ok) (B m s ok) C X (D m s ok) k i pos W ((prime_iff m s ok k h).1 p)),
        );
  }
