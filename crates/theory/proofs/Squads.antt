-- Squads of an accepted sheet: the prime form of joined fields is the sum of theirs, so that a field goes into another just where its prime form does.
use mathlib.Core.List.{List}
use mathlib.Core.Logic.{◌↔◌}
use mathlib.Core.Path.{◌≡◌, sym, ◌∙◌, ap, fun_ext}
use Prim.Native.Nat.{ℕ, zero, suc, ◌+◌, ◌*◌, ◌≤◌, ◌<◌}
use native.Mathlib.Decide.{dec_lt}
use native.Mathlib.Nat.{mul-zero, mul-le-mul_left}
use native.Mathlib.Omega.{arith}
use Rattle.model.specs.Field.{Field, ◌⊕◌, times, unit, weigh, at, tokens}
use Rattle.model.specs.Card.{Card, On, Reached}
use Rattle.model.specs.Norm.{Clears, IsNorm, kind_norm, norm}
use Rattle.model.specs.Sense.{plain}
use Rattle.model.specs.Base.{form_at, settled_form}
use Rattle.model.specs.Squads.{remainder}
use Rattle.model.specs.Sheet.{kind_count, card_of, field_of}
use Rattle.model.specs.Refusal.{Accepted}
use Rattle.model.specs.Answer.{prime_form, squad_count, remainder_form}
use Rattle.theory.specs.Expansion.{Bisimilar}
use Rattle.theory.specs.Terms.{OfKinds, Prime}
use Rattle.theory.specs.Squads.{Joined, IsLargest, Squads}
use Rattle.theory.proofs.Field.{weigh_plus, weigh_part, weigh_some, weigh_mono}
use Rattle.theory.proofs.Stages.{level_cong}
use Rattle.theory.proofs.Rank.{Within}
use Rattle.theory.proofs.Base.{form, form_self, form_within, form_rel}
use Rattle.theory.proofs.Unique.{form_iff}
use Rattle.theory.proofs.Settle.{tidy_within}
use Rattle.theory.proofs.Count.{past_whole, level_low}
use Rattle.theory.proofs.Lists.{get_d_from, get_d_past}
use Rattle.theory.proofs.Reach.{fire_kinds}
use Rattle.theory.proofs.Senses.{tidy}
use Rattle.theory.proofs.Program.{theirs}
use Rattle.theory.proofs.Gain.{sheet_norms}
use Rattle.theory.proofs.Sheets.{sheet_clear, sheet_reaches, under_kinds, certified, field_kinds}
use Rattle.theory.proofs.Settling.{settled_row_is, sheet_primes}
use Rattle.theory.proofs.Verdicts.{N, B, R, D, L, q, fin, at_form, written_is, form_prime, bisimilar, to_stage, from_stage, kinds_is}
use Rattle.theory.proofs.Quotients.{times_largest, times_most, remainder_exact}
use Rattle.theory.proofs.Remainders.{itself, exchange, left_over}

some_times : (m n : ℕ) → 0 < m * n → 0 < n
some_times m zero h = absurd (omega (arith, mul-zero m))
some_times m (suc n) h = omega arith

nothing : (n : ℕ) → ¬ (0 < n) → n ≡ 0
nothing n h = omega arith

weigh_times : (n : ℕ) (w : ℕ → ℕ) (m : ℕ) (a : Field) → weigh n w (times m a) ≡ m * weigh n w a
unfolding weigh
weigh_times zero w m a = omega arith
weigh_times (suc n) w m a = omega (arith, weigh_times n w m a)

-- The prime form of any field of the reached kinds.
module _ (s : List ℕ) (ok : Accepted s) where
  abbrev c : Card
  c = card_of s

  abbrev prime : Field → Field
  prime x = settled_form c x

  of_kinds : (i : ℕ) → OfKinds c (field_of s i)
  of_kinds i = field_kinds s (sheet_clear s ok) i

  prime_is : (x : Field) → OfKinds c x → prime x ≡ form (N plain s ok) (R plain s ok) (B plain s ok) (D plain s ok) x
  prime_is x u = rw (L plain s ok).is (theirs plain c (kind_norm c) (certified s ok) (q plain s ok) x u)

  prime_joined : (m : ℕ) (x y : Field) (k : ℕ) → prime (times m x ⊕ y) k ≡ m * prime x k + prime y k
  unfolding form_at
  prime_joined m x y k = weigh_plus c.kinds _ (times m x) y ∙ ap (λ n. n + prime y k) (weigh_times c.kinds _ m x)

  within : (x : Field) → OfKinds c x → Within (N plain s ok) (B plain s ok) x
  within x u = tidy_within (N plain s ok) (B plain s ok) (past_whole (N plain s ok) (fin plain s ok)) x (tidy plain c (kind_norm c) (certified s ok) x u)

  prime_parts : (x : Field) → OfKinds c x → (k : ℕ) → 0 < prime x k → Reached c k × ((D plain s ok).row k ≡ unit k)
  prime_parts x u k h =
      let t = form_within (N plain s ok) (R plain s ok) (B plain s ok) (D plain s ok) (B plain s ok) x (omega arith) (within x u) in
      let i = rw (ap (λ (f : Field). f k) (prime_is x u)) at h in
      ((certified s ok).out k (t.0 k i).1, t.1 k i)

  prime_self : (x : Field) → ((k : ℕ) → 0 < x k → Reached c k × ((D plain s ok).row k ≡ unit k)) → prime x ≡ x
  prime_self x f =
      let u : OfKinds c x = λ k h. (f k h).0 in
      prime_is x u ∙ form_self (N plain s ok) (R plain s ok) (B plain s ok) (D plain s ok) x (within x u, λ k h. (f k h).1)

  same_prime {ℓ} : (x y : Field) → OfKinds c x → OfKinds c y → Bisimilar {ℓ} (On c) x y ↔ (prime x ≡ prime y)
  same_prime x y u v =
      let F = certified s ok in
      let b = bisimilar plain s ok x y (tidy plain c (kind_norm c) F x u) (tidy plain c (kind_norm c) F y v) in
      let f = form_iff (N plain s ok) (R plain s ok) (B plain s ok) (D plain s ok) (level_cong (N plain s ok) (q plain s ok)) (level_low (N plain s ok) (fin plain s ok) (q plain s ok)) x y (within x u) (within y v) in (
        (λ p. prime_is x u ∙ f.0 (from_stage plain s ok x y (b.1 p)) ∙ sym (prime_is y v)),
        (λ e. b.0 (to_stage plain s ok x y (f.1 (sym (prime_is x u) ∙ e ∙ prime_is y v)))),
      )

  -- The form has the field's norm, and so a field with tokens has a form with some.
  prime_norm : (x : Field) → OfKinds c x → norm c (prime x) ≡ norm c x
  prime_norm x u =
      ap (norm c) (prime_is x u)
      ∙ sym ((level_cong (N plain s ok) (q plain s ok)).norms x (form (N plain s ok) (R plain s ok) (B plain s ok) (D plain s ok) x)
      (form_rel (N plain s ok) (R plain s ok) (B plain s ok) (D plain s ok) (level_cong (N plain s ok) (q plain s ok)) (level_low (N plain s ok) (fin plain s ok) (q plain s ok)) x (within x u)))

  some_prime : (x : Field) → OfKinds c x → 0 < tokens c.kinds x → (k : ℕ) × (k < c.kinds) × (0 < prime x k)
  some_prime x u h =
      let t = weigh_some c.kinds (λ _. 1) x h in
      let p = weigh_part c.kinds (kind_norm c) x t.0 t.1 in
      let m = mul-le-mul_left (x t.0) ((certified s ok).positive t.0 (u t.0 t.2)) in
      let r = weigh_some c.kinds (kind_norm c) (prime x) (omega (arith, prime_norm x u, p, m, t.2)) in
      (r.0, r.1, r.2)

  prime_own {ℓ} : (k : ℕ) → Prime {ℓ} c k → (D plain s ok).row k ≡ unit k
  prime_own k p = sym (settled_row_is plain s ok k p.0) ∙ ((sheet_primes plain s ok).own_row k p.0).1 p

  form_at_is : (i k : ℕ) → at (prime_form s i) k ≡ prime (field_of s i) k
  form_at_is i k = ap (λ (f : Field). f k) (at_form plain s ok i ∙ sym (written_is plain s ok i))

  -- For the code: a field that is not empty has a form that is not.
  pub form_some : (j : ℕ) → 0 < tokens (kind_count s) (field_of s j) → 0 < tokens (kind_count s) (at (prime_form s j))
  form_some j full =
      let v = some_prime (field_of s j) (of_kinds j) (rw (kinds_is plain s ok) full) in
      omega (arith, v.2, form_at_is j v.0, weigh_part (kind_count s) (λ _. 1) (at (prime_form s j)) v.0 (omega (arith, v.1, kinds_is plain s ok)))

  -- A form has no more tokens than its field has norm.
  form_small : (i : ℕ) → tokens (kind_count s) (at (prime_form s i)) ≤ norm c (field_of s i)
  form_small i =
      let e : at (prime_form s i) ≡ prime (field_of s i) = fun_ext (form_at_is i) in
      rw (e, ← kinds_is plain s ok, ← prime_norm (field_of s i) (of_kinds i)) (weigh_mono c.kinds (λ _. 1) (kind_norm c) (prime (field_of s i)) (λ k h p. (certified s ok).positive k (prime_parts (field_of s i) (of_kinds i) k p).0))

  module _ (i j : ℕ) where
    abbrev whole : Field
    whole = field_of s i

    abbrev squad : Field
    squad = field_of s j

    abbrev count : ℕ
    count = squad_count s i j

    abbrev left : Field
    left = at (remainder_form s i j)

    form_kind : (n k : ℕ) → 0 < at (prime_form s n) k → k < kind_count s
    form_kind n k h = under_kinds s k (prime_parts (field_of s n) (of_kinds n) k (omega (arith, form_at_is n k))).0

    -- As many squads' forms as were counted, and what is written, are the whole's form.
    exact : (k : ℕ) → count * at (prime_form s j) k + left k ≡ at (prime_form s i) k
    unfolding squad_count remainder_form
    exact k = go (dec_lt k (kind_count s)) (dec_lt 0 (at (prime_form s j) k)) (dec_lt 0 (at (prime_form s i) k))
      where
        go : Dec (k < kind_count s) → Dec (0 < at (prime_form s j) k) → Dec (0 < at (prime_form s i) k) → count * at (prime_form s j) k + left k ≡ at (prime_form s i) k
        go (yes h) _ _ =
            let z : 0 + k ≡ k = omega arith in
            let e = get_d_from (remainder (kind_count s) (at (prime_form s i)) (at (prime_form s j))) 0 (kind_count s) k 0 h in
            omega (arith, remainder_exact (kind_count s) (at (prime_form s i)) (at (prime_form s j)) k h, rw z at e)
        go (no h) (yes p) _ = absurd (h (form_kind j k p))
        go (no h) (no p) (yes r) = absurd (h (form_kind i k r))
        go (no h) (no p) (no r) =
            let e = get_d_past (remainder (kind_count s) (at (prime_form s i)) (at (prime_form s j))) 0 (kind_count s) k 0 (omega arith) in
            let m : count * at (prime_form s j) k ≡ 0 = rw (nothing (at (prime_form s j) k) p) (mul-zero count) in
            omega (arith, e, m)

    exact_prime : (k : ℕ) → count * prime squad k + left k ≡ prime whole k
    exact_prime k = omega (arith, exact k, form_at_is i k, ap (λ n. count * n) (form_at_is j k))

    left_parts : (k : ℕ) → 0 < left k → Reached c k × ((D plain s ok).row k ≡ unit k)
    left_parts k h = prime_parts whole (of_kinds i) k (omega (arith, exact_prime k))

    joined_kinds : (m : ℕ) (x : Field) → OfKinds c x → OfKinds c (times m squad ⊕ x)
    joined_kinds m x u k h = go (dec_lt 0 (m * squad k)) (dec_lt 0 (x k))
      where
        go : Dec (0 < m * squad k) → Dec (0 < x k) → Reached c k
        go (yes p) _ = of_kinds j k (some_times m (squad k) p)
        go (no p) (yes r) = u k r
        go (no p) (no r) = absurd (omega arith)

    joined {ℓ} : Joined {ℓ} c whole squad count left
    joined =
        (same_prime whole (times count squad ⊕ left) (of_kinds i) (joined_kinds count left (λ k h. (left_parts k h).0))).1
        (fun_ext (λ k. sym (prime_joined count squad left k ∙ ap (λ n. count * prime squad k + n) (ap (λ (f : Field). f k) (prime_self left left_parts)) ∙ exact_prime k)))

    -- Squads and a remainder that are the same as the whole divide its form.
    divides {ℓ} : (m : ℕ) (x : Field) → OfKinds c x → Joined {ℓ} c whole squad m x → (k : ℕ) → m * prime squad k + prime x k ≡ prime whole k
    divides m x u p k =
        sym (ap (λ (f : Field). f k) ((same_prime whole (times m squad ⊕ x) (of_kinds i) (joined_kinds m x u)).0 p) ∙ prime_joined m squad x k)

    form_of_rest {ℓ} : (x : Field) → OfKinds c x → Joined {ℓ} c whole squad count x → prime x ≡ left
    form_of_rest x u p = fun_ext (λ k. omega (arith, divides count x u p k, exact_prime k))

    no_other_joined {ℓ} : (x : Field) → ((k : ℕ) → 0 < x k → Prime {ℓ} c k) → Joined {ℓ} c whole squad count x → x ≡ left
    no_other_joined x f p = sym (prime_self x (λ k h. ((f k h).0, prime_own k (f k h)))) ∙ form_of_rest x (λ k h. (f k h).0) p

    clear_squads : (m : ℕ) → Clears (On c) (norm c (times m squad)) (times m squad)
    unfolding IsNorm
    clear_squads m =
        ((sheet_norms s (sheet_clear s ok)).fields (times m squad) (λ k h. let v = of_kinds j k (some_times m (squad k) h) in ((sheet_reaches s).under k v, (certified s ok).positive k v))).0

    -- A remainder of any kinds is as good as one of the card's.
    no_larger {ℓ} : 0 < tokens (kind_count s) squad → (m : ℕ) (x : Field) → Joined {ℓ} c whole squad m x → m ≤ count
    unfolding Bisimilar squad_count
    no_larger full m x (Q, S, p) =
        let t = left_over c Q S (λ l a o h u. fire_kinds c l a (o, u l.kind h) u) (norm c (times m squad)) (times m squad) x whole (of_kinds i) (clear_squads m) p in
        let d = divides m t.0 t.1 (exchange (On c) Q S whole (times m squad) x t.0 p t.2) in
        let v = some_prime squad (of_kinds j) (rw (kinds_is plain s ok) full) in
        times_largest (kind_count s) (at (prime_form s i)) (at (prime_form s j)) m v.0 (omega (arith, v.1, kinds_is plain s ok)) (omega (arith, v.2, form_at_is j v.0))
        (λ k h. omega (arith, d k, form_at_is i k, ap (λ n. m * n) (form_at_is j k)))

    largest {ℓ} : 0 < tokens (kind_count s) squad → (m : ℕ) → (count ≡ m) ↔ IsLargest {ℓ} c whole squad m
    largest full m = (
      (λ e. rw (sym e) (record { some_remainder = (left, joined); no_larger = no_larger full })),
      (λ f. let x = no_larger full m f.some_remainder.0 f.some_remainder.1 in let y = f.no_larger count left joined in omega arith),
    )

    -- Without tokens it goes in any number of times.
    empty {ℓ} : tokens (kind_count s) squad ≡ 0 → (m : ℕ) → ¬ IsLargest {ℓ} c whole squad m
    empty e m f = let x = f.no_larger (suc m) whole (rw none_joined (itself (On c) whole)) in omega arith
      where
        no_token : (k : ℕ) → squad k ≡ 0
        no_token k = go (dec_lt 0 (squad k))
          where
            go : Dec (0 < squad k) → squad k ≡ 0
            go (yes h) = absurd (omega (arith, weigh_part (kind_count s) (λ _. 1) squad k (omega (arith, under_kinds s k (of_kinds j k h)))))
            go (no h) = omega arith

        none_joined : times (suc m) squad ⊕ whole ≡ whole
        none_joined = fun_ext (λ k. let z : suc m * squad k ≡ 0 = rw (no_token k) (mul-zero (suc m)) in omega arith)

    some_left : (k : ℕ) → 0 < left k → 0 < at (prime_form s i) k
    some_left k h = omega (arith, exact k)

    pub squads {ℓ} : Squads {ℓ} s i j
    unfolding squad_count
    squads = record {
      largest = largest;
      joined = joined;
      primes = λ k h. form_prime plain s ok i k (rw (ap (λ (f : Field). f k) (at_form plain s ok i)) at (some_left k h));
      form = form_of_rest;
      exact = exact;
      no_other = λ x f. fun_ext (λ k. omega (arith, f k, exact k));
      no_other_joined = no_other_joined;
      empty = empty;
      small = (omega (arith, times_most (kind_count s) (at (prime_form s i)) (at (prime_form s j)), form_small i), λ k. omega (arith, exact k));
    }
