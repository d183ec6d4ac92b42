-- What is claimed of shelf numbers, proved: the kinds of a card, the last first, and the listing over them.
use mathlib.Core.Bool.{Bool, true, false}
use mathlib.Core.List.{List, [], ◌∷◌, ◌++◌, reverse, reverse-append, Memᴰ}
use mathlib.Core.Path.{◌≡◌, refl, sym, ◌∙◌, ap}
use Prim.Native.Nat.{ℕ, zero, suc, ◌+◌, ◌≤◌, ◌<◌}
use native.Mathlib.Decide.{ℕ_discrete, dec_lt}
use native.Mathlib.Omega.{arith}
use lib.ListN.{length, length-reverse}
use lib.Dec.{T}
use Rattle.model.specs.Finite.{keep, list_from, below}
use Rattle.model.specs.Field.{Field, none, weigh, tokens}
use Rattle.model.specs.Card.{Card, reached, reached_kinds, reached_count}
use Rattle.model.specs.Sheet.{card_of}
use Rattle.model.specs.Shelf.{entry, listed, last_first, shelf_number, shelf_field}
use Rattle.theory.specs.Terms.{OfKinds}
use Rattle.theory.specs.Meanings.{Reaches}
use Rattle.theory.specs.Shelves.{Precedes, Shelves, EntriesFit}
use Rattle.theory.proofs.Field.{weigh_part}
use Rattle.theory.proofs.Lists.{from_append}
use Rattle.theory.proofs.Listing.{listed_length, total, Over, Once, listed_over, listed_total, listed_complete}
use Rattle.theory.proofs.Order.{Rises, rises_at, listed_rises}
use Rattle.theory.proofs.Entries.{entry_most, entry_width}
use Rattle.theory.proofs.Sheets.{sheet_reaches}
use Rattle.theory.proofs.Numbering.{number_field, number_has, field_number, field_over}

-- Of a list with one member before, that member is kept if it passes, and else nothing changes.
module _ {A : Type 0} (p : A → Bool) (x : A) (xs : List A) where
  pub keep_yes : p x ≡ true → keep p (x ∷ xs) ≡ x ∷ keep p xs
  unfolding keep
  keep_yes e = rw (e, keep) refl

  pub keep_no : p x ≡ false → keep p (x ∷ xs) ≡ keep p xs
  unfolding keep
  keep_no e = rw (e, keep) refl

pub keep_append : {A : Type 0} (p : A → Bool) (xs ys : List A) → keep p (xs ++ ys) ≡ keep p xs ++ keep p ys
unfolding keep
keep_append p [] ys = refl
keep_append {A} p (x ∷ xs) ys = go (p x) (keep_append p xs ys)
  where
    go : (b : Bool) → keep p (xs ++ ys) ≡ keep p xs ++ keep p ys
        → (elim b as (λ _. List A) [ true ↦ x ∷ keep p (xs ++ ys) | false ↦ keep p (xs ++ ys) ]) ≡ (elim b as (λ _. List A) [ true ↦ x ∷ keep p xs | false ↦ keep p xs ]) ++ keep p ys
    go true e = ap (λ (zs : List A). x ∷ zs) e
    go false e = e

-- The kinds below n that pass, the last first: kind n stands before them, if it passes.
module _ (p : ℕ → Bool) where
  abbrev pub down_to : ℕ → List ℕ
  down_to n = reverse (keep p (below n))

  down_next : (n : ℕ) → down_to (suc n) ≡ reverse (keep p (n ∷ [])) ++ down_to n
  unfolding below list_from
  down_next n =
      let e : suc n ≡ n + 1 = omega arith in
      let z : 0 + n ≡ n = omega arith in
      ap (λ m. reverse (keep p (list_from (λ i. i) 0 m))) e ∙ ap (λ (xs : List ℕ). reverse (keep p xs)) (from_append (λ i. i) 0 n 1)
      ∙ ap reverse (keep_append p (list_from (λ i. i) 0 n) ((0 + n) ∷ [])) ∙ reverse-append (keep p (list_from (λ i. i) 0 n)) (keep p ((0 + n) ∷ []))
      ∙ ap (λ k. reverse (keep p (k ∷ [])) ++ reverse (keep p (list_from (λ i. i) 0 n))) z

  -- They are the kinds below n that pass, each once and each above those after it; their tokens are all that a field of such kinds has.
  pub record Down (n : ℕ) (ks : List ℕ) : Type 0 where
    pub under : (k : ℕ) → Memᴰ k ks → (k < n) × T (p k)
    pub has : (k : ℕ) → k < n → T (p k) → Memᴰ k ks
    pub once : Once ks
    pub falls : Rises (λ x y. y < x) ks
    pub tokens_are : (a : Field) → ((k : ℕ) → k < n → 0 < a k → T (p k)) → total ks a ≡ tokens n a

  down_more : (n : ℕ) (ks : List ℕ) → T (p n) → Down n ks → Down (suc n) (n ∷ ks)
  unfolding Once Rises total weigh
  down_more n ks t d = record {
    under = under;
    has = λ k h q. has k h q (ℕ_discrete k n);
    once = ((λ m. omega (arith, (d.under n m).0)), d.once);
    falls = ((λ y m. (d.under y m).0), d.falls);
    tokens_are = λ a f. omega (arith, d.tokens_are a (λ k h. f k (omega arith)));
  }
    where
      under : (k : ℕ) → Memᴰ k (n ∷ ks) → (k < suc n) × T (p k)
      under k (Memᴰ.head e) = (omega arith, rw e t)
      under k (Memᴰ.tail m) = (omega (arith, (d.under k m).0), (d.under k m).1)

      has : (k : ℕ) → k < suc n → T (p k) → Dec (k ≡ n) → Memᴰ k (n ∷ ks)
      has k h q (yes e) = Memᴰ.head e
      has k h q (no e) = Memᴰ.tail (d.has k (omega arith) q)

  down_less : (n : ℕ) (ks : List ℕ) → ¬ T (p n) → Down n ks → Down (suc n) ks
  unfolding weigh
  down_less n ks t d = record {
    under = λ k m. (omega (arith, (d.under k m).0), (d.under k m).1);
    has = λ k h q. has k h q (ℕ_discrete k n);
    once = d.once;
    falls = d.falls;
    tokens_are = λ a f. omega (arith, d.tokens_are a (λ k h. f k (omega arith)), empty a f (dec_lt 0 (a n)));
  }
    where
      has : (k : ℕ) → k < suc n → T (p k) → Dec (k ≡ n) → Memᴰ k ks
      has k h q (yes e) = absurd (t (rw e at q))
      has k h q (no e) = d.has k (omega arith) q

      empty : (a : Field) → ((k : ℕ) → k < suc n → 0 < a k → T (p k)) → Dec (0 < a n) → a n ≡ 0
      empty a f (yes h) = absurd (t (f n (omega arith) h))
      empty a f (no h) = omega arith

  pub down_is : (n : ℕ) → Down n (down_to n)
  unfolding below keep list_from Once Rises total weigh
  down_is zero = record { under = λ k m. elim m [ ]; has = λ k h. absurd (omega arith); once = tt; falls = tt; tokens_are = λ a f. refl }
  down_is (suc n) = rw (down_next n) (go (p n) refl (down_is n))
    where
      go : (b : Bool) → p n ≡ b → Down n (down_to n) → Down (suc n) (reverse (elim b as (λ _. List ℕ) [ true ↦ n ∷ [] | false ↦ [] ]) ++ down_to n)
      go true e d = down_more n (down_to n) (rw e tt) d
      go false e d = down_less n (down_to n) (λ t. rw e at t) d

-- The kinds of a card that are listed, the last first.
pub kinds_down : (c : Card) → Down (reached c) c.kinds (last_first c)
unfolding reached_kinds
kinds_down c = down_is (reached c) c.kinds

pub kinds_many : (c : Card) → length (last_first c) ≡ reached_count c
kinds_many c = length-reverse (reached_kinds c)

pub shelves_of : (c : Card) → Reaches c → (t : ℕ) → Shelves c t
unfolding shelf_number shelf_field
shelves_of c F t = record {
  kinds = λ k. ((λ m. (F.test_iff k).0 (d.under k m).1), (λ h. d.has k (F.under k h) ((F.test_iff k).1 h)));
  last = λ x y h l. rises_at (λ x y. y < x) 0 ks x y d.falls h l;
  many = listed_length ks t ∙ ap (λ n. entry n t) (kinds_many c);
  fields = λ a. (
    (λ m. let f = of_kinds a (listed_over ks t a m) in (f, sym (tokens_are a f) ∙ listed_total ks t a d.once m)),
    (λ u. listed_complete ks t a d.once (over a u.0) (tokens_are a u.0 ∙ u.1)),
  );
  order = λ x y h l. rises_at (Precedes ks) none (listed ks t) x y (listed_rises ks t d.once) h (rw (listed_length ks t) (entry_at y l));
  number_field = λ x h. rw (used x h).1 (number_field ks t d.once x (entry_at x h));
  field_number = λ a f e. rw e (field_number ks t d.once a (over a f) (tokens_are a f ∙ e));
  number_under = λ a f e. rw e (at_entry _ (number_has ks t d.once a (tokens_are a f ∙ e)).0);
  used = used;
  others = λ x h k n. nothing (shelf_field c t x k) (λ i. n ((used x h).0 k i));
  small = λ x h k. small (shelf_field c t x) (used x h).0 (used x h).1 k (dec_lt 0 (shelf_field c t x k));
}
  where
    ks : List ℕ
    ks = last_first c

    d : Down (reached c) c.kinds ks
    d = kinds_down c

    tokens_are : (a : Field) → OfKinds c a → total ks a ≡ tokens c.kinds a
    tokens_are a f = d.tokens_are a (λ k h q. (F.test_iff k).1 (f k q))

    over : (a : Field) → OfKinds c a → Over ks a
    over a f k h = d.has k (F.under k (f k h)) ((F.test_iff k).1 (f k h))

    of_kinds : (a : Field) → Over ks a → OfKinds c a
    of_kinds a f k h = (F.test_iff k).0 (d.under k (f k h)).1

    nothing : (n : ℕ) → ¬ (0 < n) → n ≡ 0
    nothing n h = omega arith

    entry_at : (x : ℕ) → x < entry (reached_count c) t → x < entry (length ks) t
    entry_at x h = rw (kinds_many c) h

    at_entry : (x : ℕ) → x < entry (length ks) t → x < entry (reached_count c) t
    at_entry x h = rw (kinds_many c) at h

    used : (x : ℕ) → x < entry (reached_count c) t → OfKinds c (shelf_field c t x) × (tokens c.kinds (shelf_field c t x) ≡ t)
    used x h =
        let u = field_over ks t d.once x (entry_at x h) in
        let f = of_kinds _ u.0 in
        (f, sym (tokens_are _ f) ∙ u.1)

    small : (a : Field) → OfKinds c a → tokens c.kinds a ≡ t → (k : ℕ) → Dec (0 < a k) → a k ≤ t
    small a f e k (yes q) = omega (arith, weigh_part c.kinds (λ _. 1) a k (F.under k (f k q)))
    small a f e k (no q) = omega arith

pub shelves : (s : List ℕ) (t : ℕ) → Shelves (card_of s) t
shelves s t = shelves_of (card_of s) (sheet_reaches s) t

pub entries_fit : EntriesFit
entries_fit k t h l = omega (arith, entry_most k 31 t 16 h l, entry_width 32 16)
