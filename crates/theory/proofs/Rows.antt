-- The model's rows are the base at their stage, and its settled stage is settled.
use mathlib.Core.Bool.{Bool, true, false, not}
use mathlib.Core.List.{List, Memᴰ}
use mathlib.Core.Logic.{◌↔◌, ◌⊎◌, inl, inr}
use mathlib.Core.Path.{◌≡◌, refl, sym, ◌∙◌, ap, fun_ext}
use Prim.Native.Nat.{ℕ, zero, suc, ◌+◌, ◌≤◌, ◌<◌, min, max}
use native.Mathlib.Decide.{ℕ_discrete, dec_lt, map_dec}
use native.Mathlib.Omega.{arith}
use lib.Dec.{T, T_not, not_T}
use Rattle.model.specs.Finite.{both, pick, least_from}
use Rattle.model.specs.Field.{Field, none, unit}
use Rattle.model.specs.Card.{Line, Card, reached, Reached, reached_kinds, reached_count, reached_lines}
use Rattle.theory.specs.Expansion.{Expands}
use Rattle.model.specs.Stage.{stage_from}
use Rattle.model.specs.Base.{fields_of_norm, earlier, earlier_than, atom, row, passes, first_settled, form_at}
use Rattle.theory.proofs.Field.{weigh_unit, weigh_weights, weigh_swap}
use Rattle.theory.proofs.Normed.{Normed, norm, Tidy}
use Rattle.theory.proofs.Stages.{Alike, level, Stage, level_cong}
use Rattle.theory.proofs.Rank.{rank, rank_norm, rank_number, Within, decomp}
use Rattle.theory.proofs.Base.{Base, Prime, Atom, Made, form, unit_some}
use Rattle.theory.proofs.Unique.{unique}
use Rattle.theory.proofs.Settle.{Whole, Settled}
use Rattle.theory.proofs.Decide.{Finite, list_finite}
use Rattle.theory.proofs.Count.{alive, size, past, past_whole, level_low, level_base, passes_settled, settles}
use Rattle.theory.proofs.Further.{prime_atom, atom_prime, row_atoms}
use Rattle.theory.proofs.Exec.{Tells, tells_and, tells_map, tells_lt, tells_eq, tells_any, tells_all, tells_expands, tells_stage}
use Rattle.theory.proofs.Lists.{first_cases, least_cases}
use Rattle.theory.proofs.Reach.{tells_or, one, one_yes, tally_keep}
use Rattle.theory.proofs.Certified.{Found, normed}
use Rattle.theory.proofs.Enumerate.{fields_sound, fields_complete}
use Rattle.theory.specs.Terms.{OnReached, OfKinds}

pub tells_not : (b : Bool) (A : Type 0) → Tells b A → Tells (not b) (¬ A)
tells_not b A f = record { fact = λ t a. T_not b t (f.test a); test = λ n. not_T b (λ t. n (f.fact t)) }

-- A card with certified norms of the reached kinds, a second weight, and a test that decides its stage 0.
module _ (card : Card) (w e : ℕ → ℕ) (F : Found card w) (r : Field → Field → Bool) (tells_alike : (x y : Field) → Tells (r x y) (Alike (normed card w e F) x y)) where
  abbrev N : Normed
  N = normed card w e F

  abbrev xs : List Line
  xs = reached_lines card

  to : (l : Line) → OnReached card l → Memᴰ l (reached_lines card)
  to l o = (F.reach.lines_iff l).1 o

  from : (l : Line) → Memᴰ l (reached_lines card) → OnReached card l
  from l m = (F.reach.lines_iff l).0 m

  pos : (k : ℕ) → Reached card k → 0 < w k
  pos = F.positive

  num : (k : ℕ) → Reached card k → k < card.kinds
  num k v = F.reach.under k v

  live_of : (k : ℕ) → 0 < w k → Reached card k
  live_of = F.out

  tells_reached : (k : ℕ) → Tells (reached card k) (Reached card k)
  tells_reached k = record { fact = (F.reach.test_iff k).0; test = (F.reach.test_iff k).1 }

  abbrev pub S : ℕ → Field → Field → Bool
  S = stage_from card.kinds (reached_lines card) w r

  pub finite : Finite (OnReached card)
  finite P d = map_dec (λ t. (t.0, from t.0 t.1, t.2)) (λ t. (t.0, to t.0 t.1, t.2)) (list_finite xs P d)

  tells : (s : ℕ) (a b : Field) → Tells (S (suc s) a b) (level N s a b)
  unfolding Stage
  tells s a b = tells_stage N xs to from r tells_alike (suc s) a b

  -- The order of kinds.
  abbrev pub Earlier : ℕ → ℕ → Type 0
  Earlier j k = (N.w j < N.w k) ⊎ ((N.w j ≡ N.w k) × (j < k))

  pub order_iff : (k j : ℕ) → k < N.n → j < N.n → Earlier j k ↔ (rank N j < rank N k)
  order_iff k j h i = (low, high)
    where
      low : Earlier j k → rank N j < rank N k
      low (inl p) = rank_norm N j k i p
      low (inr p) = rank_number N j k p.0 p.1

      high : rank N j < rank N k → Earlier j k
      high p = go (dec_lt (N.w j) (N.w k)) (dec_lt (N.w k) (N.w j)) (dec_lt j k) (ℕ_discrete j k)
        where
          go : Dec (N.w j < N.w k) → Dec (N.w k < N.w j) → Dec (j < k) → Dec (j ≡ k) → Earlier j k
          go (yes q) u v e = inl q
          go (no q) (yes u) v e = absurd (omega (arith, rank_norm N k j h u))
          go (no q) (no u) (yes v) e = inr (omega arith, v)
          go (no q) (no u) (no v) (yes e) = absurd (omega (arith, ap (rank N) e))
          go (no q) (no u) (no v) (no e) = absurd (omega (arith, rank_number N k j (omega arith) (omega arith)))

  pub tells_earlier : (k j : ℕ) → k < N.n → j < N.n → Tells (earlier w j k) (rank N j < rank N k)
  unfolding earlier
  tells_earlier k j h i =
      tells_map (order_iff k j h i).0 (order_iff k j h i).1
      (tells_or _ _ (N.w j < N.w k) ((N.w j ≡ N.w k) × (j < k)) (tells_lt (N.w j) (N.w k)) (tells_and _ _ (tells_eq (N.w j) (N.w k)) (tells_lt j k)))

  pub tells_earlier_than : (k j : ℕ) → k < N.n → Tells (earlier_than card w k j) (Reached card j × (rank N j < rank N k))
  unfolding earlier_than
  tells_earlier_than k j h = go (reached card j) (tells_reached j)
    where
      go : (b : Bool) → Tells b (Reached card j) → Tells (both b (earlier w j k)) (Reached card j × (rank N j < rank N k))
      go true t = let v = t.fact tt in tells_map (λ q. (v, q)) (λ q. q.1) (tells_earlier k j h (num j v))
      go false t = record { fact = λ q. absurd q; test = λ q. t.test q.0 }

  -- The rows: of a reached kind the search's, of any other zeros.
  pub row_out : (s k : ℕ) → ¬ Reached card k → row card w S s k ≡ none
  unfolding row
  row_out s k n = go (reached card k) (tells_reached k) _
    where
      go : (b : Bool) → Tells b (Reached card k) → (x : Field) → (elim b as (λ _. Field) [ true ↦ x | false ↦ none ]) ≡ none
      go true t x = absurd (n (t.fact tt))
      go false t x = refl

  module _ (s : ℕ) where
    -- A related field has the kind's norm.
    related_norm : (k : ℕ) → k < N.n → (c : Field) → level N s (unit k) c → norm N c ≡ N.w k
    related_norm k h c p = sym ((level_cong N s).norms (unit k) c p) ∙ weigh_unit N.n w k h

    -- Atoms are the kinds that are prime at the stage.
    pub tells_atom : (k : ℕ) → Reached card k → Tells (atom card w S (suc s) k) (Prime N (level N s) k)
    unfolding atom
    tells_atom k v =
        tells_map (λ n c i p. n (c, listed c i (related_norm k h c p), p)) (λ f t. f t.0 (within t.0 t.1) t.2)
        (tells_not _ ((c : Field) × Memᴰ c (fields_of_norm N.n (earlier_than card w k) w (w k)) × level N s (unit k) c)
        (tells_any _ (level N s (unit k)) (tells s (unit k)) (fields_of_norm N.n (earlier_than card w k) w (w k))))
      where
        h : k < N.n
        h = num k v

        listed : (c : Field) → Within N (rank N k) c → norm N c ≡ w k → Memᴰ c (fields_of_norm N.n (earlier_than card w k) w (w k))
        listed c f q =
            fields_complete (earlier_than card w k) w N.n (w k) c q
            (λ j i. let u = f j i in (u.0, (tells_earlier_than k j h).test (live_of j u.1, u.2))) (λ j i. (f j i).1)

        within : (c : Field) → Memᴰ c (fields_of_norm N.n (earlier_than card w k) w (w k)) → Within N (rank N k) c
        within c m j i =
            let u = (fields_sound (earlier_than card w k) w N.n (w k) c m).1 j i in
            let q = (tells_earlier_than k j h).fact u.1 in
            (u.0, pos j q.0, q.1)

    -- The row found is the base's.
    pub row_is : (k : ℕ) → Reached card k → row card w S (suc s) k ≡ (level_base N finite s).row k
    unfolding row
    row_is k v = found_is (reached card k) (tells_reached k)
      where
        h : k < N.n
        h = num k v

        E : Base N (level N s) (past N finite)
        E = level_base N finite s

        W : Whole N (past N finite)
        W = past_whole N finite

        ok : ℕ → Bool
        ok j = both (earlier_than card w k j) (atom card w S (suc s) j)

        x : Field
        x = pick (S (suc s) (unit k)) (fields_of_norm N.n ok w (w k)) (unit k)

        ok_fact : (j : ℕ) → T (ok j) → Reached card j × (rank N j < rank N k) × Prime N (level N s) j
        ok_fact j t = go (earlier_than card w k j) (tells_earlier_than k j h) t
          where
            go : (b : Bool) → Tells b (Reached card j × (rank N j < rank N k)) → T (both b (atom card w S (suc s) j)) → Reached card j × (rank N j < rank N k) × Prime N (level N s) j
            go true f u = let q = f.fact tt in (q.0, q.1, (tells_atom j q.0).fact u)
            go false f u = absurd u

        ok_test : (j : ℕ) → Reached card j → rank N j < rank N k → Prime N (level N s) j → T (ok j)
        ok_test j u q p = (tells_and _ _ (tells_earlier_than k j h) (tells_atom j u)).test ((u, q), p)

        prime_row : (j : ℕ) → Reached card j → Prime N (level N s) j → Atom E.row j
        prime_row j u p = prime_atom N (level N s) (past N finite) (level_cong N s) (level_low N finite s) E j (num j u) (pos j u) (W j (num j u)) p

        row_prime : (j : ℕ) → Reached card j → Atom E.row j → Prime N (level N s) j
        row_prime j u p = atom_prime N (level N s) (past N finite) (level_cong N s) (level_low N finite s) E j (num j u) (pos j u) (W j (num j u)) p

        go : (Memᴰ x (fields_of_norm N.n ok w (w k)) × T (S (suc s) (unit k) x))
            ⊎ ((x ≡ unit k) × ((c : Field) → Memᴰ c (fields_of_norm N.n ok w (w k)) → ¬ T (S (suc s) (unit k) c))) → x ≡ E.row k
        go (inl t) =
            unique N (level N s) (past N finite) E (level_cong N s) (level_low N finite s) x (E.row k)
            ((λ j i. let u = ok_fact j (over j i).1 in (num j u.0, pos j u.0, W j (num j u.0))), (λ j i. let u = ok_fact j (over j i).1 in prime_row j u.0 u.2))
            (row_atoms N (level N s) (past N finite) (level_cong N s) (level_low N finite s) E E k h (pos k v) (W k h))
            ((level_cong N s).tr x (unit k) (E.row k) ((level_cong N s).sm (unit k) x ((tells s (unit k) x).fact t.1)) (E.rel k h (pos k v) (W k h)))
          where
            over : (j : ℕ) → 0 < x j → (j < N.n) × T (ok j)
            over = (fields_sound ok w N.n (w k) x t.0).1
        go (inr t) = t.0 ∙ sym (own (E.sort k h (pos k v) (W k h)))
          where
            own : (Atom E.row k × Prime N (level N s) k) ⊎ Made N E.row k → E.row k ≡ unit k
            own (inl p) = p.0
            own (inr m) = absurd (t.1 (E.row k) listed ((tells s (unit k) (E.row k)).test (E.rel k h (pos k v) (W k h))))
              where
                listed : Memᴰ (E.row k) (fields_of_norm N.n ok w (w k))
                listed =
                    fields_complete ok w N.n (w k) (E.row k) (related_norm k h (E.row k) (E.rel k h (pos k v) (W k h)))
                    (λ j i. let u = m j i in let q = live_of j u.1 in (u.0, ok_test j q u.2 (row_prime j q u.3))) (λ j i. (m j i).1)

        found_is : (b : Bool) → Tells b (Reached card k) → (elim b as (λ _. Field) [ true ↦ x | false ↦ none ]) ≡ E.row k
        found_is true t = go (first_cases (S (suc s) (unit k)) (fields_of_norm N.n ok w (w k)) (unit k))
        found_is false t = absurd (t.test v)

    -- The rows pass the model's test just when the stage is settled.
    pub tells_passes : Tells (passes card w S (suc s)) (Settled N (suc s))
    unfolding passes Stage
    tells_passes =
        tells_map there back
        (tells_all _ (λ k. Expands N.on (level N s) (unit k) (row card w S (suc s) k))
        (λ k. tells_expands N.on xs to from (S (suc s)) (level N s) (tells s) (unit k) (row card w S (suc s) k)) (reached_kinds card))
      where
        there : ((k : ℕ) → Memᴰ k (reached_kinds card) → Expands N.on (level N s) (unit k) (row card w S (suc s) k)) → Settled N (suc s)
        there f = passes_settled N finite s (λ k h q. let v = live_of k q in rw (row_is k v) at (f k ((F.reach.kinds_iff k).1 v)))

        tidy_unit : (k : ℕ) → Reached card k → Tidy N (unit k)
        tidy_unit k v j i = rw (unit_some k j i) (num k v, pos k v)

        tidy_row : (k : ℕ) → Reached card k → Tidy N ((level_base N finite s).row k)
        tidy_row k v =
            let E = level_base N finite s in
            let W = past_whole N finite in
            let u = row_atoms N (level N s) (past N finite) (level_cong N s) (level_low N finite s) E E k (num k v) (pos k v) (W k (num k v)) in
            λ j i. let v = u.0 j i in (v.0, v.1)

        back : Settled N (suc s) → (k : ℕ) → Memᴰ k (reached_kinds card) → Expands N.on (level N s) (unit k) (row card w S (suc s) k)
        back f k m =
            let v = (F.reach.kinds_iff k).0 m in
            rw (row_is k v)
            (f (unit k) ((level_base N finite s).row k) (tidy_unit k v) (tidy_row k v) ((level_base N finite s).rel k (num k v) (pos k v) (past_whole N finite k (num k v))))

    -- A decomposition by the rows is the theory's form, of a field of reached kinds.
    pub form_is : (a : Field) → OfKinds card a → form_at card w S (suc s) a ≡ form N (level N s) (past N finite) (level_base N finite s) a
    unfolding form_at form decomp
    form_is a f = fun_ext (λ j.
        weigh_weights N.n (λ k. row card w S (suc s) k j) (λ k. (level_base N finite s).row k j) a (λ k _ h. ap (λ (x : Field). x j) (row_is k (f k h))))

  -- The live kinds are as many as the reached ones.
  size_is : size N ≤ reached_count card
  unfolding size alive reached_kinds
  size_is =
      omega (
        arith,
        tally_keep (reached card) card.kinds,
        weigh_swap card.kinds (λ k. min 1 (w k)) (λ k. one (reached card k)) (λ k. small k (dec_lt 0 (w k))),
      )
    where
      small : (k : ℕ) → Dec (0 < w k) → min 1 (w k) ≤ one (reached card k)
      small k (yes h) = omega (arith, one_yes (reached card k) ((tells_reached k).test (live_of k h)))
      small k (no h) = omega arith

  -- The settled stage: from 1 up, at most the number of reached kinds or 1, settled, and the least that is.
  pub record Least (t : ℕ) : Type 0 where
    pub before : ℕ
    pub is : t ≡ suc before
    pub most : t ≤ max 1 (reached_count card)
    pub settled : Settled N t
    pub least : (q : ℕ) → suc q < t → ¬ Settled N (suc q)

  pub settled_least : Least (first_settled card w S)
  unfolding first_settled
  settled_least = go (least_from P 1 n) refl (least_cases P 1 n)
    where
      P : ℕ → Bool
      P = passes card w S

      n : ℕ
      n = reached_count card

      E : (t : ℕ) × (t < max 1 (size N)) × Settled N (suc t)
      E = settles N finite

      go : (t : ℕ) → least_from P 1 n ≡ t → ((t ≡ 1 + n) ⊎ ((t < 1 + n) × T (P t))) × (1 ≤ t) × ((k : ℕ) → 1 ≤ k → k < t → ¬ T (P k)) → Least t
      go zero e c = absurd (omega (arith, c.1))
      go (suc q) e c = end c.0 (dec_lt E.0 q)
        where
          end : (suc q ≡ 1 + n) ⊎ ((suc q < 1 + n) × T (P (suc q))) → Dec (E.0 < q) → Least (suc q)
          end z (yes i) = absurd (c.2 (suc E.0) (omega arith) (omega arith) ((tells_passes E.0).test E.2))
          end (inl z) (no i) =
              let a : E.0 ≡ q = omega (arith, E.1, size_is) in
              record { before = q; is = refl; most = omega (arith, E.1, size_is); settled = rw a at E.2; least = λ k i f. c.2 (suc k) (omega arith) i ((tells_passes k).test f) }
          end (inr z) (no i) = record {
            before = q;
            is = refl;
            most = omega (arith, z.0);
            settled = (tells_passes q).fact z.1;
            least = λ k i f. c.2 (suc k) (omega arith) i ((tells_passes k).test f);
          }
