-- The fields of a size whose rows add up to given counts, a kind at a time.
use mathlib.Core.Bool.{Bool}
use mathlib.Core.List.{List, [], ◌∷◌, map, Memᴰ}
use mathlib.Core.Path.{◌≡◌, refl, sym, ◌∙◌, ap, fun_ext}
use Prim.Native.Nat.{ℕ, suc, ◌+◌, ◌≤◌, ◌<◌}
use native.Mathlib.Decide.{dec_lt}
use native.Mathlib.Omega.{arith}
use lib.Dec.{T}
use lib.ListN.{length}
use Rattle.model.specs.Finite.{below}
use Rattle.model.specs.Field.{Field, none, ◌⊕◌, unit, agree}
use Rattle.model.specs.Limits.{most_kinds}
use Rattle.model.specs.Shelf.{entry, listed}
use Rattle.tables.specs.Table.{row_in, form_in}
use Rattle.theory.proofs.Field.{weigh_plus, weigh_none, weigh_unit, weigh_some}
use Rattle.theory.proofs.Exec.{Tells, tells_map}
use Rattle.theory.proofs.Lists.{below_mem}
use Rattle.theory.proofs.Reach.{one_yes, one_no}
use Rattle.theory.proofs.Counting.{count, count_none, count_cons, count_most, count_append, count_zero, count_map}
use Rattle.theory.proofs.Listing.{more, listed_next, listed_length}
use Rattle.theory.proofs.Entries.{entry_empty}
use Rattle.theory.proofs.Numbering.{tells_agree, tells_same, listed_none}
use Rattle.tables.proofs.Tables.{at_kind, row_past}
use Rattle.row_sums.specs.Sums.{adding_to}

-- No kind past the most that a card may have has a count.
abbrev pub NonePast : Field → Type 0
NonePast x = (j : ℕ) → most_kinds ≤ j → x j ≡ 0

module _ (rows : List ℕ) where
  -- The rows of a field, added: no counts past the most kinds, none of no tokens, and one row more of one token more.
  abbrev sum : Field → Field
  sum b = form_in most_kinds rows b

  sum_past : (b : Field) → NonePast (sum b)
  unfolding form_in
  sum_past b j h = go (dec_lt 0 (sum b j))
    where
      go : Dec (0 < sum b j) → sum b j ≡ 0
      go (yes q) = let s = weigh_some most_kinds (λ k. row_in rows k j) b q in absurd (omega (arith, s.3, row_past rows s.0 j h))
      go (no q) = omega arith

  sum_none : sum none ≡ none
  unfolding form_in
  sum_none = fun_ext (λ j. weigh_none most_kinds (λ k. row_in rows k j))

  sum_more : (k : ℕ) → k < most_kinds → (b : Field) → sum (b ⊕ unit k) ≡ sum b ⊕ row_in rows k
  unfolding form_in
  sum_more k h b =
      fun_ext (λ j. omega (arith, weigh_plus most_kinds (λ i. row_in rows i j) b (unit k), weigh_unit most_kinds (λ i. row_in rows i j) k h))

  -- The test of a field says that its rows add up to the counts.
  abbrev adds : Field → Field → Bool
  adds x b = agree (below most_kinds) (sum b) x

  tells_adds : (x : Field) → NonePast x → (b : Field) → Tells (adds x b) (sum b ≡ x)
  tells_adds x n b =
      tells_map (λ f. fun_ext (λ j. go f j (dec_lt j most_kinds))) (λ e j _. at_kind e j) (tells_agree (below most_kinds) (sum b) x)
    where
      go : ((j : ℕ) → Memᴰ j (below most_kinds) → sum b j ≡ x j) → (j : ℕ) → Dec (j < most_kinds) → sum b j ≡ x j
      go f j (yes l) = f j (below_mem most_kinds j l)
      go f j (no l) = sum_past b j (omega arith) ∙ sym (n j (omega arith))

  module _ (ks : List ℕ) (x : Field) where
    -- No more add up to the counts than there are.
    pub adding_most : (t : ℕ) → adding_to rows ks t x ≤ entry (length ks) t
    unfolding adding_to
    adding_most t = omega (arith, count_most (adds x) (listed ks t), listed_length ks t)

    -- No token: the empty field alone, whose rows add up to no counts.
    pub adding_nothing : NonePast x → none ≡ x → adding_to rows ks 0 x ≡ 1
    unfolding adding_to
    adding_nothing n e =
        ap (count (adds x)) (listed_none ks)
        ∙ omega (arith, count_cons (adds x) none [], one_yes (adds x none) ((tells_adds x n none).test (sum_none ∙ e)), count_none (adds x))

    pub adding_something : NonePast x → ¬ (none ≡ x) → adding_to rows ks 0 x ≡ 0
    unfolding adding_to
    adding_something n d =
        ap (count (adds x)) (listed_none ks)
        ∙ omega (arith, count_cons (adds x) none [], one_no (adds x none) (λ q. d (sym sum_none ∙ (tells_adds x n none).fact q)), count_none (adds x))

  -- Of no kinds there is no field of a token.
  pub adding_empty : (x : Field) (t : ℕ) → 0 < t → adding_to rows [] t x ≡ 0
  adding_empty x t h = omega (arith, adding_most [] x t, entry_empty t h)

  -- One kind more, the last: the fields without it, and those of a token less with one more of it.
  module _ (k : ℕ) (ks : List ℕ) (t : ℕ) (x : Field) where
    -- How many of those with it add up to the counts.
    abbrev with_kind : ℕ
    with_kind = count (λ b. adds x (more k ks b)) (listed (k ∷ ks) t)

    adding_next : adding_to rows (k ∷ ks) (suc t) x ≡ adding_to rows ks (suc t) x + with_kind
    unfolding adding_to
    adding_next =
        ap (count (adds x)) (listed_next k ks t) ∙ count_append (adds x) (listed ks (suc t)) (map (more k ks) (listed (k ∷ ks) t))
        ∙ ap (λ n. count (adds x) (listed ks (suc t)) + n) (count_map (adds x) (more k ks) (listed (k ∷ ks) t))

    module _ (under : k < most_kinds) (short : NonePast x) where
      -- Its row goes into the counts: one token less adds up to what is left.
      pub adding_fits : (y : Field) → y ⊕ row_in rows k ≡ x → adding_to rows (k ∷ ks) (suc t) x ≡ adding_to rows ks (suc t) x + adding_to rows (k ∷ ks) t y
      unfolding adding_to
      adding_fits y e = adding_next ∙ ap (λ (p : Field → Bool). count (adds x) (listed ks (suc t)) + count p (listed (k ∷ ks) t)) (fun_ext same)
        where
          short_left : NonePast y
          short_left j h = omega (arith, at_kind e j, short j h)

          same : (b : Field) → adds x (more k ks b) ≡ adds y b
          same b =
              tells_same (adds x (more k ks b)) (adds y b) (tells_adds x short (more k ks b)) (tells_adds y short_left b)
              (λ q. fun_ext (λ j. omega (arith, at_kind q j, at_kind (sum_more k under b) j, at_kind e j))) (λ q. fun_ext (λ j. omega (arith, at_kind q j, at_kind (sum_more k under b) j, at_kind e j)))

      -- Its row does not go into them: no field with a token of it adds up to them.
      pub adding_over : ¬ ((j : ℕ) → row_in rows k j ≤ x j) → adding_to rows (k ∷ ks) (suc t) x ≡ adding_to rows ks (suc t) x
      adding_over n = adding_next ∙ omega (arith, count_zero (λ b. adds x (more k ks b)) never (listed (k ∷ ks) t))
        where
          never : (b : Field) → ¬ T (adds x (more k ks b))
          never b q = n (λ j. omega (arith, at_kind ((tells_adds x short (more k ks b)).fact q) j, at_kind (sum_more k under b) j))

  -- One token: of one kind more, the token of it, where its row is the counts.
  module _ (k : ℕ) (ks : List ℕ) (x : Field) (under : k < most_kinds) (short : NonePast x) where
    pub adding_row : row_in rows k ≡ x → adding_to rows (k ∷ ks) 1 x ≡ adding_to rows ks 1 x + 1
    adding_row e = adding_fits k ks 0 x under short none (fun_ext (λ j. omega (arith, at_kind e j))) ∙ omega (arith, adding_nothing (k ∷ ks) none (λ j _. refl) refl)

    pub adding_other : ¬ (row_in rows k ≡ x) → adding_to rows (k ∷ ks) 1 x ≡ adding_to rows ks 1 x
    adding_other d = adding_next k ks 0 x ∙ omega (arith, nothing)
      where
        not_it : ¬ T (adds x (more k ks none))
        not_it q = d (fun_ext (λ j. omega (arith, at_kind ((tells_adds x short (more k ks none)).fact q) j, at_kind (sum_more k under none) j, at_kind sum_none j)))

        nothing : with_kind k ks 0 x ≡ 0
        nothing =
            ap (count (λ b. adds x (more k ks b))) (listed_none (k ∷ ks))
            ∙ omega (arith, count_cons (λ b. adds x (more k ks b)) none [], one_no (adds x (more k ks none)) not_it, count_none (λ b. adds x (more k ks b)))
