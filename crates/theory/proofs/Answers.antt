-- Demand 1: what each call answers, and what it refuses.
use mathlib.Core.Bool.{Bool, true, false}
use mathlib.Core.List.{List, [], ◌++◌, ◌∷◌}
use mathlib.Core.Logic.{◌↔◌, ◌⊎◌, inl, inr}
use mathlib.Core.Path.{◌≡◌, refl, ◌∙◌, ap}
use Prim.Native.Nat.{ℕ, zero, suc, ◌+◌, ◌*◌, ◌-◌, ◌≤◌, ◌<◌, min}
use native.Mathlib.Decide.{dec_lt}
use native.Mathlib.Nat.{mul-le-mul_right}
use native.Mathlib.Omega.{arith}
use lib.Dec.{ltb}
use lib.ListN.{length, take, drop, get_or, set, length-set, length-take, length-drop, get_or-append}
use lib.Seq.{get_or-append-add, get_or-set_other}
use Rattle.theory.proofs.Lists.{length_from, get_d_from}
use Rattle.model.specs.Finite.{concat, list_from}
use Rattle.model.specs.Norm.{kind_norm}
use Rattle.model.specs.Sense.{Sense}
use Rattle.model.specs.Base.{rounds_at, settled_stage, settled_row, since}
use Rattle.model.specs.Field.{at}
use Rattle.model.specs.Card.{reached_count}
use Rattle.model.specs.Shelf.{shelf_field}
use Rattle.model.specs.Walk.{WalkAnswer, spent, Walk}
use Rattle.model.specs.Sheet.{kind_count, field_count, card_of, field_of}
use Rattle.model.specs.Refusal.{Finding, clear, refusal, first_of, Accepted, settle_checks, settle_since_checks, compare_checks, form_checks, walk_checks, shelf_number_checks, shelf_field_checks, squads_checks, frequencies_checks}
use Rattle.model.specs.Answer.{table_of, marks_of, prime_form_in, refused, given, Session, Walked, same, different, settle_of, settle_since_of, row_check_of, row_of, verdict_in, compare_in, forming_in, drawing, within, full_walk, walk_of, shelf_number_of, shelf_counts, shelf_field_of, squad_count, remainder_form, squads_of, frequencies, frequencies_of}
use Rattle.theory.specs.Demands.{Demand1}
use Rattle.theory.proofs.Senses.{verdict_cases}
use Rattle.model.proofs.Plain.{plain}
use Rattle.theory.proofs.Exec.{Tells, tells_lt}
use Rattle.theory.proofs.Sheets.{never, certified}
use Rattle.theory.proofs.Limits.{limits_accepted, accepted_limits}
use Rattle.theory.proofs.Walks.{walk_not_spent}
use Rattle.theory.proofs.Verdicts.{compare_is, L, field_tidy}
use Rattle.theory.proofs.Calls.{call_clear, call_refused, kept, past, marked_kept, marked_past}
use Rattle.theory.proofs.Taken.{settle_taken, since_taken, compare_taken, form_taken, row_taken, walk_taken, walk_desk, number_taken, shelf_taken, squads_taken, frequencies_taken}

-- An entry of a list that is lowered; one that the list does not have is 0, and stays so.
pub set_lowered : (xs : List ℕ) (d n : ℕ) → at (set xs d (at xs d - n)) d ≡ at xs d - n
set_lowered [] d n = omega arith
set_lowered (x ∷ xs) zero n = refl
set_lowered (x ∷ xs) (suc d) n = set_lowered xs d n

-- A table written row by row: entry j of row k.
module _ (f : ℕ → ℕ → ℕ) (n : ℕ) where
  Rows : ℕ → ℕ → List ℕ
  Rows i m = concat (list_from (λ k. list_from (f k) 0 n) i m)

  unroll : (i m : ℕ) (P : List ℕ → Type 0) → P (list_from (f i) 0 n ++ Rows (suc i) m) → P (Rows i (suc m))
  unfolding Rows concat list_from
  unroll i m P p = p

  rows_at : (i m k j : ℕ) → k < m → j < n → get_or (Rows i m) (k * n + j) 0 ≡ f (i + k) j
  unfolding Rows concat
  rows_at i zero k j h l = absurd (omega arith)
  rows_at i (suc m) zero j h l =
      let e : 0 * n + j ≡ j = omega arith in
      let z : i + 0 ≡ i = omega arith in
      let q : 0 + j ≡ j = omega arith in
      rw (e, z) (unroll i m (λ r. get_or r j 0 ≡ f i j) (get_or-append (list_from (f i) 0 n) (Rows (suc i) m) 0 j (omega (arith, length_from (f i) 0 n)) ∙ get_d_from (f i) 0 n j 0 l ∙ ap (f i) q))
  rows_at i (suc m) (suc k) j h l =
      let e : suc k * n + j ≡ length (list_from (f i) 0 n) + (k * n + j) = omega (arith, length_from (f i) 0 n) in
      let z : i + suc k ≡ suc i + k = omega arith in
      rw (e, z) (unroll i m (λ r. get_or r (length (list_from (f i) 0 n) + (k * n + j)) 0 ≡ f (suc i + k) j) (get_or-append-add (list_from (f i) 0 n) (Rows (suc i) m) (k * n + j) 0 ∙ rows_at (suc i) m k j (omega arith) l))

module _ (s : List ℕ) where
  kinds_of : (card_of s).kinds ≡ kind_count s
  unfolding card_of
  kinds_of = refl

  called : Accepted s → (m : Sense) (i j : ℕ) → i < field_count s → j < field_count s
      → (compare_in m s i j ≡ given same) ⊎ ((t : ℕ) × (r : ℕ) × (compare_in m s i j ≡ given (different t r)))
  called ok m i j h k =
      go (verdict_cases m (card_of s) (kind_norm (card_of s)) (certified s ok) _ (L m s ok).most (L m s ok).settled (field_of s i) (field_of s j) (field_tidy m s ok i) (field_tidy m s ok j))
    where
      e : compare_in m s i j ≡ given (verdict_in m (card_of s) (kind_norm (card_of s)) (field_of s i) (field_of s j))
      e = compare_is m s ok i j h k

      go : {P : Type 0} {Q : ℕ → Type 0} → ((verdict_in m (card_of s) (kind_norm (card_of s)) (field_of s i) (field_of s j) ≡ same) × P)
          ⊎ ((d : ℕ) × ((d ≤ reached_count (card_of s)) × (verdict_in m (card_of s) (kind_norm (card_of s)) (field_of s i) (field_of s j) ≡ different d (rounds_at (card_of s) (kind_norm (card_of s)) d (field_of s i) (field_of s j))) × Q d))
          → (compare_in m s i j ≡ given same) ⊎ ((t : ℕ) × (r : ℕ) × (compare_in m s i j ≡ given (different t r)))
      go (inl x) = inl (e ∙ ap given x.0)
      go (inr x) = inr (x.0, rounds_at (card_of s) (kind_norm (card_of s)) x.0 (field_of s i) (field_of s j), e ∙ ap given x.1.1)

  -- The walk itself never finds spent.
  not_spent : (i j limit : ℕ) → ¬ ((full_walk s i j limit).found ≡ spent)
  unfolding full_walk
  not_spent i j limit = walk_not_spent (card_of s).lines (field_of s i) (field_of s j) limit 1

  module _ (left : ℕ) (u : Walk) where
    Cut : Bool → Walk
    Cut b = elim b [ true ↦ record { found = spent; count = left } | false ↦ u ]

    within_is : within left u ≡ Cut (ltb left u.count)
    unfolding within Cut
    within_is = refl

    within_spent : ¬ (u.found ≡ spent) → ((within left u).found ≡ spent) ↔ (left < u.count)
    unfolding Cut
    within_spent n = rw within_is (go (ltb left u.count) (tells_lt left u.count))
      where
        go : (b : Bool) → Tells b (left < u.count) → ((Cut b).found ≡ spent) ↔ (left < u.count)
        go true t = ((λ _. t.fact tt), (λ _. refl))
        go false t = ((λ e. absurd (n e)), (λ h. absurd (t.test h)))

    within_found : ¬ (left < u.count) → within left u ≡ u
    unfolding Cut
    within_found n = within_is ∙ go (ltb left u.count) (tells_lt left u.count)
      where
        go : (b : Bool) → Tells b (left < u.count) → Cut b ≡ u
        go true t = absurd (n (t.fact tt))
        go false t = refl

    within_draws : (within left u).count ≡ min u.count left
    unfolding Cut
    within_draws = rw within_is (go (ltb left u.count) (tells_lt left u.count) (dec_lt left u.count))
      where
        go : (b : Bool) → Tells b (left < u.count) → Dec (left < u.count) → (Cut b).count ≡ min u.count left
        go true t d = omega (arith, t.fact tt)
        go false t (yes h) = absurd (t.test h)
        go false t (no h) = omega arith

  row_part_is : (n k : ℕ) (table : List ℕ) → 0 < n → k < n → n * n ≤ length table → ¬ (take n (drop (k * n) table) ≡ [])
  row_part_is n k table p h i e =
      omega (arith, ap length e, length-take n (drop (k * n) table), length-drop (k * n) table, mul-le-mul_right n h)

  row_refuses : (n k : ℕ) (table : List ℕ) → (row_of n k table ≡ []) ↔ ((q : ℕ) × (p : ℕ) × (row_check_of n k table ≡ refusal q p))
  unfolding row_of
  row_refuses n k table = go (row_check_of n k table) refl
    where
      go : (f : Finding) → row_check_of n k table ≡ f
          → (◌≡◌ {A = List ℕ} (elim f as (λ _. List ℕ) [ clear ↦ take n (drop (k * n) table) | refusal _ _ ↦ [] ]) []) ↔ ((q : ℕ) × (p : ℕ) × (f ≡ refusal q p))
      go clear e = let w = (row_taken n k table).0 e in ((λ x. absurd (row_part_is n k table w.0 w.2 w.3 x)), (λ x. never x.0 x.1 x.2))
      go (refusal q p) e = ((λ _. (q, p, refl)), (λ _. refl))

  table_row : (k j : ℕ) → k < kind_count s → j < kind_count s
      → at (table_of s) (k * kind_count s + j) ≡ settled_row (card_of s) k j
  unfolding table_of Rows
  table_row k j h l = let z : 0 + k ≡ k = omega arith in rw z at (rows_at (settled_row (card_of s)) (kind_count s) 0 (kind_count s) k j h l)

  module _ (i j limit d : ℕ) (v : Session) where
    -- A walk that is not refused, within what its desk has left.
    abbrev pub own : Walk
    own = within (at v.left d) (full_walk s i j limit)

    pub walk_clear : first_of (walk_checks s i j limit d) ≡ clear
        → walk_of s i j limit d v ≡ record { answer = given own.found; drawn = own.count; after = drawing v d own.count }
    unfolding walk_of
    walk_clear e = call_clear _ _ (first_of (walk_checks s i j limit d)) e

    walk_refused : (k p : ℕ) → first_of (walk_checks s i j limit d) ≡ refusal k p → walk_of s i j limit d v ≡ record { answer = refused k p; drawn = 0; after = v }
    unfolding walk_of
    walk_refused k p e = call_refused _ _ (first_of (walk_checks s i j limit d)) k p e

    walk_spent : first_of (walk_checks s i j limit d) ≡ clear → ((walk_of s i j limit d v).answer ≡ given spent) ↔ (at v.left d < (full_walk s i j limit).count)
    walk_spent e =
        let w = within_spent (at v.left d) (full_walk s i j limit) (not_spent i j limit) in
        rw (walk_clear e) ((λ g. w.0 (given_out own.found g)), (λ h. ap given (w.1 h)))
      where
        given_out : (x : WalkAnswer) → given x ≡ given spent → x ≡ spent
        given_out x e = cc

    walk_found : first_of (walk_checks s i j limit d) ≡ clear → ¬ (at v.left d < (full_walk s i j limit).count) → (walk_of s i j limit d v).answer ≡ given (full_walk s i j limit).found
    walk_found e n = rw (walk_clear e) (ap (λ (w : Walk). given w.found) (within_found (at v.left d) (full_walk s i j limit) n))

    walk_draws : first_of (walk_checks s i j limit d) ≡ clear → (walk_of s i j limit d v).drawn ≡ min (full_walk s i j limit).count (at v.left d)
    walk_draws e = rw (walk_clear e) (within_draws (at v.left d) (full_walk s i j limit))

    -- What the call leaves, whatever it answers.
    abbrev Leaves : Walked → Type 0
    Leaves w = (at w.after.left d + w.drawn ≡ at v.left d) × ((e : ℕ) → ¬ (e ≡ d) → at w.after.left e ≡ at v.left e) × (length w.after.left ≡ length v.left)

    walk_leaves : Leaves (walk_of s i j limit d v)
    walk_leaves = go (first_of (walk_checks s i j limit d)) refl
      where
        lowered : Leaves (record { answer = given own.found; drawn = own.count; after = drawing v d own.count })
        lowered =
            let n = within_draws (at v.left d) (full_walk s i j limit) in (
              omega (arith, n, set_lowered v.left d own.count),
              (λ e h. get_or-set_other v.left d e (at v.left d - own.count) 0 h),
              length-set v.left d (at v.left d - own.count),
            )

        go : (f : Finding) → first_of (walk_checks s i j limit d) ≡ f → Leaves (walk_of s i j limit d v)
        go clear e = rw (walk_clear e) lowered
        go (refusal k p) e = rw (walk_refused k p e) (omega arith, (λ e h. refl), refl)

  shelf_counts_is : (t x k : ℕ) → k < kind_count s → at (shelf_counts s t x) k ≡ shelf_field (card_of s) t x k
  unfolding shelf_counts
  shelf_counts_is t x k h = let z : 0 + k ≡ k = omega arith in get_d_from (shelf_field (card_of s) t x) 0 (kind_count s) k 0 h ∙ ap (shelf_field (card_of s) t x) z

  since_marks : (k : ℕ) → k < kind_count s → at (marks_of s) k ≡ since (card_of s) k
  unfolding marks_of
  since_marks k h = let z : 0 + k ≡ k = omega arith in get_d_from (since (card_of s)) 0 (kind_count s) k 0 h ∙ ap (since (card_of s)) z

  pub demand1 : Demand1 s
  unfolding settle_of settle_since_of compare_in forming_in row_of shelf_number_of shelf_field_of squads_of frequencies_of
  demand1 = record {
    accepted = (accepted_limits s, limits_accepted s);
    settle_taken = settle_taken s;
    settled = λ L table h. call_clear _ _ (first_of (settle_checks s (length table))) ((settle_taken s (length table)).1 (L, h));
    table_row = table_row;
    table_size = plain.table_size s;
    form_size = λ m. plain.form_size m s;
    settle_length = λ table.
        kept (given (settled_stage (card_of s))) (table_of s) table (first_of (settle_checks s (length table))) (λ e. omega (arith, plain.table_size s, ((settle_taken s (length table)).0 e).1));
    form_length = λ m i buffer.
        kept (given tt) (prime_form_in m s i) buffer (first_of (form_checks s i (length buffer))) (λ e. omega (arith, plain.form_size m s i, ((form_taken s i (length buffer)).0 e).2));
    settle_past = λ table e h.
        past (given (settled_stage (card_of s))) (table_of s) table (first_of (settle_checks s (length table))) e (omega (arith, plain.table_size s));
    form_past = λ m i buffer e h.
        past (given tt) (prime_form_in m s i) buffer (first_of (form_checks s i (length buffer))) e (omega (arith, plain.form_size m s i));
    compare_taken = compare_taken s;
    called = λ L. called (limits_accepted s L);
    form_taken = form_taken s;
    formed = λ L m i buffer h k. call_clear _ _ (first_of (form_checks s i (length buffer))) ((form_taken s i (length buffer)).1 (L, h, k));
    settle_refused = λ table k p e. call_refused _ _ (first_of (settle_checks s (length table))) k p e;
    compare_refused = λ m i j k p e. call_refused _ _ (first_of (compare_checks s i j)) k p e;
    form_refused = λ m i buffer k p e. call_refused _ _ (first_of (form_checks s i (length buffer))) k p e;
    walk_refused = walk_refused;
    walk_desk = walk_desk s;
    walk_taken = walk_taken s;
    walk_spent = walk_spent;
    walk_found = walk_found;
    walk_draws = walk_draws;
    walk_loses = λ i j limit d v. (walk_leaves i j limit d v).0;
    walk_others = λ i j limit d v. (walk_leaves i j limit d v).1;
    walk_desks = λ i j limit d v. (walk_leaves i j limit d v).2;
    row_taken = row_taken;
    row_part_is = λ n k table e. call_clear _ _ (row_check_of n k table) e;
    row_refused = row_refuses;
    number_taken = number_taken s;
    numbered = λ i e. call_clear _ _ (first_of (shelf_number_checks s i)) e;
    number_refused = λ i k p e. call_refused _ _ (first_of (shelf_number_checks s i)) k p e;
    shelf_taken = shelf_taken s;
    shelved = λ t x buffer e. call_clear _ _ (first_of (shelf_field_checks s t x (length buffer))) e;
    shelf_refused = λ t x buffer k p e. call_refused _ _ (first_of (shelf_field_checks s t x (length buffer))) k p e;
    shelf_counts_is = shelf_counts_is;
    shelf_size = plain.shelf_size s;
    shelf_length = λ t x buffer.
        kept (given tt) (shelf_counts s t x) buffer (first_of (shelf_field_checks s t x (length buffer))) (λ e. omega (arith, plain.shelf_size s t x, ((shelf_taken s t x (length buffer)).0 e).3));
    shelf_past = λ t x buffer e h.
        past (given tt) (shelf_counts s t x) buffer (first_of (shelf_field_checks s t x (length buffer))) e (omega (arith, plain.shelf_size s t x));
    squads_taken = squads_taken s;
    squads_given = λ i j buffer e. call_clear _ _ (first_of (squads_checks s i j (length buffer))) e;
    squads_refused = λ i j buffer k p e. call_refused _ _ (first_of (squads_checks s i j (length buffer))) k p e;
    remainder_size = plain.remainder_size s;
    squads_length = λ i j buffer.
        kept (given (squad_count s i j)) (remainder_form s i j) buffer (first_of (squads_checks s i j (length buffer))) (λ e. omega (arith, plain.remainder_size s i j, ((squads_taken s i j (length buffer)).0 e).4));
    squads_past = λ i j buffer e h.
        past (given (squad_count s i j)) (remainder_form s i j) buffer (first_of (squads_checks s i j (length buffer))) e (omega (arith, plain.remainder_size s i j));
    frequencies_taken = frequencies_taken s;
    frequencies_given = λ i t buffer e. call_clear _ _ (first_of (frequencies_checks s i t (length buffer))) e;
    frequencies_refused = λ i t buffer k p e. call_refused _ _ (first_of (frequencies_checks s i t (length buffer))) k p e;
    frequencies_size = plain.frequencies_size s;
    frequencies_length = λ i t buffer.
        kept (given tt) (frequencies s i t) buffer (first_of (frequencies_checks s i t (length buffer))) (λ e. omega (arith, plain.frequencies_size s i t, ((frequencies_taken s i t (length buffer)).0 e).4));
    frequencies_past = λ i t buffer e h.
        past (given tt) (frequencies s i t) buffer (first_of (frequencies_checks s i t (length buffer))) e (omega (arith, plain.frequencies_size s i t));
    since_taken = since_taken s;
    since_given = λ table marks e. call_clear _ _ (first_of (settle_since_checks s (length table) (length marks))) e;
    since_refused = λ table marks k p e. call_refused _ _ (first_of (settle_since_checks s (length table) (length marks))) k p e;
    since_marks = since_marks;
    marks_size = plain.marks_size s;
    since_lengths = λ table marks.
        marked_kept (given (settled_stage (card_of s))) (table_of s) table (marks_of s) marks (first_of (settle_since_checks s (length table) (length marks)))
        (λ e. let t = (since_taken s (length table) (length marks)).0 e in (omega (arith, plain.table_size s, t.1), omega (arith, plain.marks_size s, t.2)));
    since_past = λ table marks e.
        let p = marked_past (given (settled_stage (card_of s))) (table_of s) table (marks_of s) marks (first_of (settle_since_checks s (length table) (length marks))) e in
        ((λ h. p.0 (omega (arith, plain.table_size s))), (λ h. p.1 (omega (arith, plain.marks_size s))));
  }
