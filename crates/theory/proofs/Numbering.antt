-- Numbers and fields are each other's inverse; and what a program goes by: one kind at a time, by the table's entries.
use mathlib.Core.Bool.{Bool, true, false}
use mathlib.Core.List.{List, [], ◌∷◌, ◌++◌, map, Memᴰ}
use mathlib.Core.Logic.{inl, inr}
use mathlib.Core.Path.{◌≡◌, refl, sym, ◌∙◌, ap, fun_ext}
use Prim.Native.Nat.{ℕ, zero, suc, ◌+◌, ◌-◌, ◌<◌}
use native.Mathlib.Decide.{ℕ_discrete}
use native.Mathlib.Omega.{arith}
use lib.ListN.{length, get_or, get_or-append}
use lib.Seq.{get_or-append-add}
use Rattle.model.specs.Field.{Field, none, ◌⊕◌, unit, agree}
use Rattle.model.specs.Shelf.{entry, listed, place_of, number_in, field_in}
use Rattle.theory.specs.Shelves.{Precedes}
use Rattle.theory.proofs.Field.{unit_same, unit_other}
use Rattle.theory.proofs.Exec.{Tells, tells_eq, tells_all}
use Rattle.theory.proofs.Listing.{more, listed_zero, listed_next, listed_length, total, Over, Once, none_over, listed_over, listed_total, less, less_same, less_total, Alike, listed_has, over_same}
use Rattle.theory.proofs.Order.{get_d_mem, Rises, listed_rises}
use Rattle.theory.proofs.Entries.{entry_none, entry_next, entry_grows}

-- Two tests of one fact are equal.
pub tells_same : {A B : Type 0} (b c : Bool) → Tells b A → Tells c B → (A → B) → (B → A) → b ≡ c
tells_same true true f g u v = refl
tells_same true false f g u v = absurd (g.test (u (f.fact tt)))
tells_same false true f g u v = absurd (f.test (v (g.fact tt)))
tells_same false false f g u v = refl

-- The place of a member.
pub mem_get_d : {A : Type 0} (x d : A) {xs : List A} → Memᴰ x xs → (i : ℕ) × (i < length xs) × (get_or xs i d ≡ x)
mem_get_d x d (Memᴰ.head e) = (0, omega arith, sym e)
mem_get_d x d (Memᴰ.tail m) = let u = mem_get_d x d m in (suc u.0, omega (arith, u.1), u.2)

-- Where a member is found.
module _ (ks : List ℕ) where
  pub tells_agree : (a b : Field) → Tells (agree ks a b) (Alike ks a b)
  unfolding agree
  tells_agree a b = tells_all _ (λ k. a k ≡ b k) (λ k. tells_eq (a k) (b k)) ks

  precedes_apart : (qs : List ℕ) (a b : Field) → ((j : ℕ) → Memᴰ j qs → b j ≡ a j) → ¬ Precedes qs a b
  unfolding Precedes
  precedes_apart [] a b f p = p
  precedes_apart (k ∷ qs) a b f (inl h) = omega (arith, f k (Memᴰ.head refl))
  precedes_apart (k ∷ qs) a b f (inr h) = precedes_apart qs a b (λ j m. f j (Memᴰ.tail m)) h.1

  place_at : (xs : List Field) (i : ℕ) → Rises (Precedes ks) xs → i < length xs → place_of (agree ks (get_or xs i none)) xs ≡ i
  unfolding place_of Rises
  place_at [] i r h = absurd (omega arith)
  place_at (x ∷ xs) zero r h = go (agree ks x x) (tells_agree x x)
    where
      go : (b : Bool) → Tells b (Alike ks x x) → ◌≡◌ {A = ℕ} (elim b as (λ _. ℕ) [ true ↦ 0 | false ↦ suc (place_of (agree ks x) xs) ]) 0
      go true f = refl
      go false f = absurd (f.test (λ j m. refl))
  place_at (x ∷ xs) (suc i) r h = go (agree ks y x) (tells_agree y x) (place_at xs i r.1 (omega arith))
    where
      y : Field
      y = get_or xs i none

      go : (b : Bool) → Tells b (Alike ks y x) → place_of (agree ks y) xs ≡ i → ◌≡◌ {A = ℕ} (elim b as (λ _. ℕ) [ true ↦ 0 | false ↦ suc (place_of (agree ks y) xs) ]) (suc i)
      go true f e = absurd (precedes_apart ks x y (f.fact tt) (r.0 y (get_d_mem xs i none (omega arith))))
      go false f e = ap suc e

  place_agree : (xs : List Field) (a b : Field) → Alike ks a b → place_of (agree ks a) xs ≡ place_of (agree ks b) xs
  place_agree xs a b f =
      ap (λ (p : Field → Bool). place_of p xs)
      (fun_ext (λ x. tells_same (agree ks a x) (agree ks b x) (tells_agree a x) (tells_agree b x) (λ g j m. sym (f j m) ∙ g j m) (λ g j m. f j m ∙ g j m)))

module _ (ks : List ℕ) (t : ℕ) (o : Once ks) where
  -- Number to field to number.
  pub number_field : (x : ℕ) → x < entry (length ks) t → number_in ks t (field_in ks t x) ≡ x
  number_field x h = place_at ks (listed ks t) x (listed_rises ks t o) (rw (listed_length ks t) h)

  -- Of the tokens of a field of these kinds: its number is under the entry, and the field of that number agrees with it.
  pub number_has : (a : Field) → total ks a ≡ t → (number_in ks t a < entry (length ks) t) × Alike ks a (field_in ks t (number_in ks t a))
  number_has a e =
      let x = listed_has ks t a o e in
      let u = mem_get_d x.0 none x.1 in
      let p : number_in ks t a ≡ u.0 =
      place_agree ks (listed ks t) a x.0 x.2 ∙ ap (λ (y : Field). place_of (agree ks y) (listed ks t)) (sym u.2) ∙ place_at ks (listed ks t) u.0 (listed_rises ks t o) u.1 in
      (omega (arith, u.1, listed_length ks t), λ j m. x.2 j m ∙ ap (λ (y : Field). y j) (sym u.2 ∙ ap (λ i. get_or (listed ks t) i none) (sym p)))

  -- Field to number to field.
  pub field_number : (a : Field) → Over ks a → total ks a ≡ t → field_in ks t (number_in ks t a) ≡ a
  field_number a f e =
      let u = number_has a e in
      sym (over_same ks a (field_in ks t (number_in ks t a)) f
      (listed_over ks t _ (get_d_mem (listed ks t) (number_in ks t a) none (rw (listed_length ks t) u.0))) u.1)

  pub field_over : (x : ℕ) → x < entry (length ks) t → Over ks (field_in ks t x) × (total ks (field_in ks t x) ≡ t)
  field_over x h =
      let m = get_d_mem (listed ks t) x none (rw (listed_length ks t) h) in
      (listed_over ks t _ m, listed_total ks t _ o m)

  -- A field is listed at the number that has it alone.
  pub number_only : (a : Field) (x : ℕ) → x < entry (length ks) t → Alike ks a (field_in ks t x) → number_in ks t a ≡ x
  number_only a x h f = place_agree ks (listed ks t) a (field_in ks t x) f ∙ number_field x h

-- No token: the empty field alone.
pub listed_none : (ks : List ℕ) → listed ks 0 ≡ none ∷ []
unfolding listed
listed_none [] = refl
listed_none (k ∷ ks) = listed_zero k ks ∙ listed_none ks

pub field_none : (ks : List ℕ) → field_in ks 0 0 ≡ none
field_none ks = ap (λ (xs : List Field). get_or xs 0 none) (listed_none ks)

module _ (k : ℕ) (ks : List ℕ) where
  -- Number to field: under the entry of the kinds before, none of the kind; else one token of it, that entry less.
  pub field_left : (t x : ℕ) → x < entry (length ks) t → field_in (k ∷ ks) t x ≡ field_in ks t x
  field_left zero x h = ap (λ (xs : List Field). get_or xs x none) (listed_zero k ks)
  field_left (suc t) x h =
      ap (λ (xs : List Field). get_or xs x none) (listed_next k ks t)
      ∙ get_or-append (listed ks (suc t)) (map (more k ks) (listed (k ∷ ks) t)) none x (rw (listed_length ks (suc t)) h)

  pub field_more : (t x : ℕ) → x < entry (suc (length ks)) t → field_in (k ∷ ks) (suc t) (entry (length ks) (suc t) + x) ≡ field_in (k ∷ ks) t x ⊕ unit k
  field_more t x h =
      ap (λ (xs : List Field). get_or xs (entry (length ks) (suc t) + x) none) (listed_next k ks t)
      ∙ ap (λ n. get_or (listed ks (suc t) ++ map (more k ks) (listed (k ∷ ks) t)) (n + x) none) (sym (listed_length ks (suc t)))
      ∙ get_or-append-add (listed ks (suc t)) (map (more k ks) (listed (k ∷ ks) t)) x none
      ∙ within (listed (k ∷ ks) t) x (rw (listed_length (k ∷ ks) t) h)
    where
      within : (xs : List Field) (i : ℕ) → i < length xs → get_or (map (more k ks) xs) i none ≡ more k ks (get_or xs i none)
      within [] i q = absurd (omega arith)
      within (y ∷ ys) zero q = refl
      within (y ∷ ys) (suc i) q = within ys i (omega arith)

  module _ (o : Once (k ∷ ks)) where
    once_rest : Once ks
    unfolding Once
    once_rest = o.1

    once_head : ¬ Memᴰ k ks
    unfolding Once
    once_head = o.0

    number_none : (t : ℕ) (a : Field) → a k ≡ 0 → total ks a ≡ t → number_in (k ∷ ks) t a ≡ number_in ks t a
    number_none t a z e = number_only (k ∷ ks) t o a (number_in ks t a) (omega (arith, u.0, entry_grows (length ks) t)) same
      where
        u : (number_in ks t a < entry (length ks) t) × Alike ks a (field_in ks t (number_in ks t a))
        u = number_has ks t once_rest a e

        same : Alike (k ∷ ks) a (field_in (k ∷ ks) t (number_in ks t a))
        same j m = rw (field_left t (number_in ks t a) u.0) (go m)
          where
            go : Memᴰ j (k ∷ ks) → a j ≡ field_in ks t (number_in ks t a) j
            go (Memᴰ.head d) = rw d (z ∙ sym (none_over k ks _ once_head (field_over ks t once_rest (number_in ks t a) u.0).0))
            go (Memᴰ.tail q) = u.1 j q

    number_some : (t : ℕ) (a : Field) → 0 < a k → total (k ∷ ks) a ≡ suc t → number_in (k ∷ ks) (suc t) a ≡ entry (length ks) (suc t) + number_in (k ∷ ks) t (less k a)
    number_some t a h e = number_only (k ∷ ks) (suc t) o a (entry (length ks) (suc t) + x) (omega (arith, u.0, entry_next (length ks) t)) same
      where
        x : ℕ
        x = number_in (k ∷ ks) t (less k a)

        u : (x < entry (suc (length ks)) t) × Alike (k ∷ ks) (less k a) (field_in (k ∷ ks) t x)
        u = number_has (k ∷ ks) t o (less k a) (less_total k ks a t o e h)

        same : Alike (k ∷ ks) a (field_in (k ∷ ks) (suc t) (entry (length ks) (suc t) + x))
        same j m = rw (field_more t x u.0) (go (ℕ_discrete j k))
          where
            go : Dec (j ≡ k) → a j ≡ field_in (k ∷ ks) t x j + unit k j
            go (yes d) = rw d (omega (arith, u.1 k (Memᴰ.head refl), unit_same k))
            go (no d) = omega (arith, u.1 j m, unit_other k j d)

    -- Field to number, a kind at a time: what its count passes over is the difference of two entries.
    pub number_kind : (t : ℕ) (a : Field) → total (k ∷ ks) a ≡ t
        → number_in (k ∷ ks) t a + entry (suc (length ks)) (t - a k) ≡ entry (suc (length ks)) t + number_in ks (t - a k) a
    unfolding total
    number_kind t a e = go (a k) t a refl e
      where
        go : (c t : ℕ) (a : Field) → a k ≡ c → total (k ∷ ks) a ≡ t
            → number_in (k ∷ ks) t a + entry (suc (length ks)) (t - a k) ≡ entry (suc (length ks)) t + number_in ks (t - a k) a
        go zero t a z e =
            let d : t - a k ≡ t = omega arith in
            rw (d, number_none t a z (omega arith)) (omega arith)
        go (suc c) zero a z e = absurd (omega arith)
        go (suc c) (suc t) a z e =
            let d : suc t - a k ≡ t - c = omega arith in
            let y : t - less k a k ≡ t - c = omega (arith, unit_same k) in
            let i = go c t (less k a) (omega (arith, unit_same k)) (less_total k ks a t o e (omega arith)) in
            let r : number_in ks (t - c) (less k a) ≡ number_in ks (t - c) a = place_agree ks (listed ks (t - c)) (less k a) a (λ j m. less_same k ks a j once_head m) in
            rw (d, number_some t a (omega arith) e) (omega (arith, rw y at i, r, entry_next (length ks) t))

pub number_end : (a : Field) → number_in [] 0 a ≡ 0
unfolding Once total
number_end a = omega (arith, (number_has [] 0 tt a refl).0, entry_none 0)
