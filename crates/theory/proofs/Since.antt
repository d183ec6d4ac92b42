-- The marks of the base (request 9 of document 02). Where two stages have the same row of a kind, so have all between them; so the marks at a stage follow from those at the stage before and from which rows change.
use mathlib.Core.Bool.{Bool}
use mathlib.Core.List.{List, Memᴰ}
use mathlib.Core.Logic.{◌↔◌, ◌⊎◌, inl, inr}
use mathlib.Core.Path.{◌≡◌, refl, sym, ◌∙◌, ap, fun_ext}
use Prim.Native.Nat.{ℕ, zero, suc, ◌+◌, ◌≤◌, ◌<◌}
use native.Mathlib.Decide.{dec_lt, ℕ_discrete}
use native.Mathlib.Omega.{arith}
use lib.Dec.{T}
use Rattle.model.specs.Finite.{below, least_from}
use Rattle.model.specs.Field.{Field, none, unit, weigh, agree}
use Rattle.model.specs.Card.{Card, Reached, reached}
use Rattle.model.specs.Norm.{kind_norm}
use Rattle.model.specs.Sense.{Sense}
use Rattle.model.specs.Base.{form_at, since_at, stage_row_in, stage_form_in, stage_since_in, settled_stage_in, settled_row_in, since_in}
use Rattle.model.specs.Sheet.{card_of}
use Rattle.model.specs.Refusal.{Accepted}
use Rattle.theory.specs.Expansion.{Expands}
use Rattle.theory.specs.Terms.{PrimeIn, SettledIn}
use Rattle.theory.specs.Since.{Sinces}
use Rattle.theory.proofs.Search.{dec_and, dec_not, some_below}
use Rattle.theory.proofs.Field.{weigh_none, weigh_unit}
use Rattle.theory.proofs.Normed.{Normed, Low}
use Rattle.theory.proofs.Stages.{Cong, Stage, level, level_cong}
use Rattle.theory.proofs.Rank.{rank}
use Rattle.theory.proofs.Base.{Base, Atom, Atoms, unit_some}
use Rattle.theory.proofs.Unique.{unique}
use Rattle.theory.proofs.Settle.{Settled, prime_less}
use Rattle.theory.proofs.Count.{past, past_whole, level_low, level_base}
use Rattle.theory.proofs.Consequences.{settled_stays, stage_down}
use Rattle.theory.proofs.Further.{prime_atom, atom_prime, row_atoms}
use Rattle.theory.proofs.Exec.{Tells, tells_map}
use Rattle.theory.proofs.Lists.{below_mem, least_cases, is_true, is_false}
use Rattle.theory.proofs.Reach.{dec_tells}
use Rattle.theory.proofs.Numbering.{tells_agree}
use Rattle.theory.proofs.Certified.{Found, under, live}
use Rattle.theory.proofs.Senses.{tidy, stages}
use Rattle.theory.proofs.Sheets.{certified}
use Rattle.theory.proofs.Verdicts.{L}
use Rattle.theory.proofs.Settling.{N, fin, row_of, out_row, row_kinds, sheet_settles, sheet_primes}
use Rattle.theory.proofs.Program.{stage_forms}

-- A row that a smaller relation still relates to its kind is the row there too: its atoms stay atoms.
module _ (N : Normed) (R Q : Field → Field → Type 0) (B : ℕ) (C : Cong N R) (X : (a b : Field) → R a b → Expands (Low N) R a b)
    (C' : Cong N Q) (X' : (a b : Field) → Q a b → Expands (Low N) Q a b) (less : (a b : Field) → Q a b → R a b) (D : Base N R B) (E : Base N Q B) where
  atom_stays : (k : ℕ) → k < N.n → 0 < N.w k → rank N k < B → Atom D.row k → Atom E.row k
  atom_stays k h q i e = prime_atom N Q B C' X' E k h q i (prime_less N R Q less k (atom_prime N R B C X D k h q i e))

  row_stays : (k : ℕ) → k < N.n → 0 < N.w k → rank N k < B → Q (unit k) (D.row k) → E.row k ≡ D.row k
  row_stays k h q i p =
      unique N Q B E C' X' (E.row k) (D.row k) (row_atoms N Q B C' X' E E k h q i) ((λ j u. of.0 j u), (λ j u. let t = of.0 j u in atom_stays j t.0 t.1 t.2 (of.1 j u)))
      (C'.tr (E.row k) (unit k) (D.row k) (C'.sm (unit k) (E.row k) (E.rel k h q i)) p)
    where
      of : Atoms N R B D (D.row k)
      of = row_atoms N R B C X D D k h q i

module _ (m : Sense) (c : Card) (F : Found c (kind_norm c)) where
  abbrev w : ℕ → ℕ
  w = kind_norm c

  -- The row of kind k at stage q + 1, and its mark there.
  abbrev rows : ℕ → ℕ → Field
  rows q k = stage_row_in m c (suc q) k

  abbrev mark : ℕ → ℕ → ℕ
  mark q k = stage_since_in m c (suc q) k

  level_less : (q u : ℕ) (a b : Field) → q ≤ u → level (N m c F) u a b → level (N m c F) q a b
  unfolding Stage
  level_less q u a b h p = stage_down (N m c F) (suc u) (suc q) a b (omega arith) p

  -- The row of a stage is kept at the next where the next still relates it to the kind.
  kept_next : (q k : ℕ) → Reached c k → level (N m c F) (suc q) (unit k) (rows q k) → rows (suc q) k ≡ rows q k
  kept_next q k v p =
      let h = under c w F k v in
      row_of m c F (suc q) k v
      ∙ row_stays (N m c F) (level (N m c F) q) (level (N m c F) (suc q)) (past (N m c F) (fin m c F)) (level_cong (N m c F) q) (level_low (N m c F) (fin m c F) q)
      (level_cong (N m c F) (suc q)) (level_low (N m c F) (fin m c F) (suc q)) (λ a b. level_less q (suc q) a b (omega arith))
      (level_base (N m c F) (fin m c F) q) (level_base (N m c F) (fin m c F) (suc q)) k h (F.positive k v) (past_whole (N m c F) (fin m c F) k h) (rw (row_of m c F q k v) at p)
      ∙ sym (row_of m c F q k v)

  row_related : (q k : ℕ) → Reached c k → level (N m c F) q (unit k) (rows q k)
  row_related q k v =
      let h = under c w F k v in
      rw (row_of m c F q k v) ((level_base (N m c F) (fin m c F) q).rel k h (F.positive k v) (past_whole (N m c F) (fin m c F) k h))

  -- The row of a reached kind has the kind's norm: it is not zeros.
  pub row_some : (u k : ℕ) → Reached c k → ¬ (stage_row_in m c (suc u) k ≡ none)
  row_some u k v e =
      let h = under c w F k v in
      omega (
        arith,
        F.positive k v,
        weigh_unit c.kinds w k h,
        rw e at ((level_cong (N m c F) u).norms (unit k) (rows u k) (row_related u k v)),
        weigh_none c.kinds w,
      )

  -- A row stays the same while each next stage still relates it to the kind.
  row_along : (k : ℕ) → Reached c k → (p : ℕ) (x : Field) → rows p k ≡ x → (q : ℕ) → p ≤ q → ((i : ℕ) → i < q → level (N m c F) (suc i) (unit k) x) → rows q k ≡ x
  row_along k v p x e zero h f = let z : p ≡ 0 = omega arith in rw z at e
  row_along k v p x e (suc q) h f = go (ℕ_discrete p (suc q)) (row_along k v p x e q)
    where
      go : Dec (p ≡ suc q) → (p ≤ q → ((i : ℕ) → i < q → level (N m c F) (suc i) (unit k) x) → rows q k ≡ x) → rows (suc q) k ≡ x
      go (yes z) along = rw z at e
      go (no n) along = let r = along (omega arith) (λ i l. f i (omega arith)) in kept_next q k v (rw r (f q (omega arith))) ∙ r

  -- So where two stages have the same row, so have all between them; and where the second is settled, all later ones.
  pub row_between : (k : ℕ) → Reached c k → (p u : ℕ) → stage_row_in m c (suc p) k ≡ stage_row_in m c (suc u) k → (q : ℕ) → p ≤ q → q ≤ u → stage_row_in m c (suc q) k ≡ stage_row_in m c (suc u) k
  row_between k v p u e q h i = row_along k v p (rows u k) e q h (λ j l. level_less (suc j) u (unit k) (rows u k) (omega arith) (row_related u k v))

  row_after_is : (k : ℕ) → Reached c k → (p u : ℕ) → rows p k ≡ rows u k → Settled (N m c F) (suc u) → (q : ℕ) → p ≤ q → rows q k ≡ rows u k
  unfolding Stage
  row_after_is k v p u e S q h = row_along k v p (rows u k) e q h (λ j _.
      settled_stays (N m c F) (suc u) S (suc (suc j)) (unit k) (rows u k) (λ l i. rw (unit_some k l i) (live c w F k v)) (tidy m c w F (rows u k) (row_kinds m c F u k v)) (row_related u k v))

  -- Rows are equal where they agree on the card's kinds.
  tells_row : (k : ℕ) → Reached c k → (q u : ℕ) → Tells (agree (below c.kinds) (rows q k) (rows u k)) (rows q k ≡ rows u k)
  tells_row k v q u =
      tells_map (λ f. fun_ext (λ j. same f j (dec_lt 0 (rows q k j)) (dec_lt 0 (rows u k j)))) (λ e j i. ap (λ (x : Field). x j) e) (tells_agree (below c.kinds) (rows q k) (rows u k))
    where
      of : (q j : ℕ) → 0 < rows q k j → Memᴰ j (below c.kinds)
      of q j x = below_mem c.kinds j (under c w F j (row_kinds m c F q k v j x))

      same : ((j : ℕ) → Memᴰ j (below c.kinds) → rows q k j ≡ rows u k j) → (j : ℕ) → Dec (0 < rows q k j) → Dec (0 < rows u k j) → rows q k j ≡ rows u k j
      same f j (yes x) y = f j (of q j x)
      same f j (no x) (yes y) = f j (of u j y)
      same f j (no x) (no y) = omega arith

  -- The mark of a reached kind at stage u + 1 is p + 1, the least stage with the row of stage u + 1.
  pub record SinceFound (u k p : ℕ) : Type 0 where
    pub is : stage_since_in m c (suc u) k ≡ suc p
    pub most : p ≤ u
    pub same : stage_row_in m c (suc p) k ≡ stage_row_in m c (suc u) k
    pub first : (i : ℕ) → i < p → ¬ (stage_row_in m c (suc i) k ≡ stage_row_in m c (suc u) k)

  pub since_found : (u k : ℕ) → Reached c k → (p : ℕ) × SinceFound u k p
  unfolding since_at
  since_found u k v = go (least_from test 1 (suc u)) least (least_cases test 1 (suc u))
    where
      test : ℕ → Bool
      test q = agree (below c.kinds) (stage_row_in m c q k) (rows u k)

      least : mark u k ≡ least_from test 1 (suc u)
      least = rw (is_true (reached c k) ((F.reach.test_iff k).1 v), since_at) refl

      go : (t : ℕ) → mark u k ≡ t → ((t ≡ 1 + suc u) ⊎ ((t < 1 + suc u) × T (test t))) × (1 ≤ t) × ((i : ℕ) → 1 ≤ i → i < t → ¬ T (test i)) → (p : ℕ) × SinceFound u k p
      go zero e r = absurd (omega (arith, r.1))
      go (suc p) e (inl z, _, f) = absurd (f (suc u) (omega arith) (omega arith) ((tells_row k v u u).test refl))
      go (suc p) e (inr z, _, f) = (
        p,
        record {
          is = e;
          most = omega (arith, z.0);
          same = (tells_row k v p u).fact z.1;
          first = λ i l q. f (suc i) (omega arith) (omega arith) ((tells_row k v i u).test q);
        },
      )

  -- "A kind that is out has no such mark": it has 0.
  pub since_out : (u k : ℕ) → ¬ Reached c k → stage_since_in m c u k ≡ 0
  unfolding since_at
  since_out u k n = rw (is_false (reached c k) (λ t. n ((F.reach.test_iff k).0 t)), since_at) refl

  -- For the settle loop: at stage 1 a reached kind's mark is 1; at each later stage a row that stays keeps the mark, a row that changes sets it to the new stage.
  pub since_one : (k : ℕ) → Reached c k → stage_since_in m c 1 k ≡ 1
  since_one k v = let x = since_found 0 k v in omega (arith, x.1.is, x.1.most)

  dec_reached : (k : ℕ) → Dec (Reached c k)
  dec_reached k = dec_tells (reached c k) (record { fact = (F.reach.test_iff k).0; test = (F.reach.test_iff k).1 })

  pub since_kept : (u k : ℕ) → stage_row_in m c (suc (suc u)) k ≡ stage_row_in m c (suc u) k → stage_since_in m c (suc (suc u)) k ≡ stage_since_in m c (suc u) k
  since_kept u k e = side (dec_reached k)
    where
      go : (p : ℕ) × SinceFound (suc u) k p → (q : ℕ) × SinceFound u k q → mark (suc u) k ≡ mark u k
      go (p, x) (q, y) = order (dec_lt p q) (dec_lt q p)
        where
          order : Dec (p < q) → Dec (q < p) → mark (suc u) k ≡ mark u k
          order (yes l) _ = absurd (y.first p l (x.same ∙ e))
          order (no i) (yes l) = absurd (x.first q l (y.same ∙ sym e))
          order (no i) (no l) = omega (arith, x.is, y.is)

      side : Dec (Reached c k) → mark (suc u) k ≡ mark u k
      side (yes v) = go (since_found (suc u) k v) (since_found u k v)
      side (no n) = since_out (suc (suc u)) k n ∙ sym (since_out (suc u) k n)

  pub since_changed : (u k : ℕ) → ¬ (stage_row_in m c (suc (suc u)) k ≡ stage_row_in m c (suc u) k) → stage_since_in m c (suc (suc u)) k ≡ suc (suc u)
  since_changed u k n = side (dec_reached k)
    where
      side : Dec (Reached c k) → mark (suc u) k ≡ suc (suc u)
      side (no o) = absurd (n (out_row m c F (suc (suc u)) k o ∙ sym (out_row m c F (suc u) k o)))
      side (yes v) = go (since_found (suc u) k v)
        where
          go : (p : ℕ) × SinceFound (suc u) k p → mark (suc u) k ≡ suc (suc u)
          go (p, x) = order (dec_lt p (suc u))
            where
              order : Dec (p < suc u) → mark (suc u) k ≡ suc (suc u)
              order (yes l) = absurd (n (sym (row_between k v p (suc u) x.same u (omega arith) (omega arith))))
              order (no l) = omega (arith, x.is, x.most)

  -- From stage u + 1 to stage u + 2.
  module _ (u : ℕ) where
    -- The kind is reached and its row changes.
    abbrev Changes : ℕ → Type 0
    Changes k = Reached c k × (¬ (rows (suc u) k ≡ rows u k))

    dec_same : (k : ℕ) → Reached c k → Dec (rows (suc u) k ≡ rows u k)
    dec_same k v = dec_tells _ (tells_row k v (suc u) u)

    dec_changes : (k : ℕ) → Dec (Reached c k) → Dec (Changes k)
    dec_changes k (yes v) = dec_and (yes v) (dec_not (dec_same k v))
    dec_changes k (no n) = no (λ x. n x.0)

    -- Where no row changes, the two stages relate the same fields, so that the first of them is settled.
    module _ (none_changes : (k : ℕ) → k < c.kinds → ¬ Changes k) where
      each_row : (k : ℕ) → Dec (Reached c k) → rows u k ≡ rows (suc u) k
      each_row k (no n) = out_row m c F (suc u) k n ∙ sym (out_row m c F (suc (suc u)) k n)
      each_row k (yes v) = go (dec_same k v)
        where
          go : Dec (rows (suc u) k ≡ rows u k) → rows u k ≡ rows (suc u) k
          go (yes e) = sym e
          go (no x) = absurd (none_changes k (under c w F k v) (v, x))

      same_forms : (a : Field) → stage_form_in m c (suc u) a ≡ stage_form_in m c (suc (suc u)) a
      unfolding form_at
      same_forms a = ap (λ (r : ℕ → Field). λ j. weigh c.kinds (λ k. r k j) a) (fun_ext (λ k. each_row k (dec_reached k)))

      settled_here : SettledIn m c (suc u)
      settled_here a b x y t =
          let e = sym (same_forms a) ∙ (stage_forms m c w F u a b x y).0 t ∙ same_forms b in
          (((stages m c w F).next u a b x y).0 ((stage_forms m c w F (suc u) a b x y).1 e)).1

    changes_or_settled : ((k : ℕ) × Changes k) ⊎ SettledIn m c (suc u)
    changes_or_settled = go (some_below Changes (λ k. dec_changes k (dec_reached k)) c.kinds)
      where
        go : ((k : ℕ) × (k < c.kinds) × Changes k) ⊎ ((k : ℕ) → k < c.kinds → ¬ Changes k) → ((k : ℕ) × Changes k) ⊎ SettledIn m c (suc u)
        go (inl x) = inl (x.0, x.2)
        go (inr f) = inr (settled_here f)

-- Of an accepted sheet.
module _ (m : Sense) (s : List ℕ) (ok : Accepted s) where
  abbrev c : Card
  c = card_of s

  abbrev F : Found c (kind_norm c)
  F = certified s ok

  -- The settled stage is u + 1.
  abbrev u : ℕ
  u = (L m s ok).before

  found : (k : ℕ) → Reached c k → (p : ℕ) × SinceFound m c F u k p
  found k v = since_found m c F u k v

  is : (k : ℕ) (v : Reached c k) → since_in m c k ≡ suc (found k v).0
  is k v = ap (λ t. stage_since_in m c t k) (L m s ok).is ∙ (found k v).1.is

  final : (k : ℕ) → settled_row_in m c k ≡ stage_row_in m c (suc u) k
  final k = ap (λ t. stage_row_in m c t k) (L m s ok).is

  from : (k : ℕ) → Reached c k → 1 ≤ since_in m c k
  from k v = omega (arith, is k v)

  most : (k : ℕ) → Reached c k → since_in m c k ≤ settled_stage_in m c
  most k v = omega (arith, is k v, (L m s ok).is, (found k v).1.most)

  stays : (k : ℕ) → Reached c k → (q : ℕ) → since_in m c k ≤ q → stage_row_in m c q k ≡ settled_row_in m c k
  stays k v zero l = absurd (omega (arith, is k v))
  stays k v (suc q) l = row_after_is m c F k v (found k v).0 u (found k v).1.same (rw (L m s ok).is at (L m s ok).settled) q (omega (arith, is k v)) ∙ sym (final k)

  first : (k : ℕ) → Reached c k → (q : ℕ) → 1 ≤ q → q < since_in m c k → ¬ (stage_row_in m c q k ≡ settled_row_in m c k)
  first k v zero l i e = omega arith
  first k v (suc q) l i e = (found k v).1.first q (omega (arith, is k v)) (e ∙ final k)

  prime {ℓ} : (k : ℕ) → PrimeIn {ℓ} m c k → (q : ℕ) → 1 ≤ q → (stage_row_in m c q k ≡ unit k) ↔ (since_in m c k ≤ q)
  prime k x q l = ((λ e. go e (dec_lt q (since_in m c k))), (λ h. stays k x.0 q h ∙ own))
    where
      own : settled_row_in m c k ≡ unit k
      own = ((sheet_primes m s ok).own_row k x.0).1 x

      go : stage_row_in m c q k ≡ unit k → Dec (q < since_in m c k) → since_in m c k ≤ q
      go e (yes i) = absurd (first k x.0 q l i (e ∙ sym own))
      go e (no i) = omega arith

  attained : (k : ℕ) → Reached c k → (j : ℕ) × Reached c j × (since_in m c j ≡ settled_stage_in m c)
  attained k v = go (settled_stage_in m c) refl
    where
      go : (t : ℕ) → settled_stage_in m c ≡ t → (j : ℕ) × Reached c j × (since_in m c j ≡ settled_stage_in m c)
      go zero e = absurd (omega (arith, (L m s ok).is))
      go (suc zero) e = (k, v, omega (arith, from k v, most k v))
      go (suc (suc p)) e = side (changes_or_settled m c F p)
        where
          side : ((j : ℕ) × Changes m c F p j) ⊎ SettledIn m c (suc p) → (j : ℕ) × Reached c j × (since_in m c j ≡ settled_stage_in m c)
          side (inl x) = (x.0, x.1.0, ap (λ t. stage_since_in m c t x.0) e ∙ since_changed m c F p x.0 x.1.1 ∙ sym e)
          side (inr f) = absurd ((sheet_settles m s ok).least (suc p) (omega arith) (omega arith) f)

  pub sheet_sinces {ℓ} : Sinces {ℓ} m (card_of s)
  sheet_sinces = record {
    from = from;
    most = most;
    stays = stays;
    first = first;
    prime = prime;
    attained = attained;
    out = λ k n. since_out m c F (settled_stage_in m c) k n;
  }
