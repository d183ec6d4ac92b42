-- Lists that rise by a relation, and the order of the listing.
use mathlib.Core.Bool.{Bool, true, false}
use mathlib.Core.List.Memᴰ
use mathlib.Core.List.{List, [], ◌∷◌, ◌++◌, map, Memᴰ}
use mathlib.Core.Logic.{◌⊎◌, inl, inr}
use mathlib.Core.Path.{refl, sym, ◌∙◌, ap}
use Prim.Native.Nat.{ℕ, zero, suc, ◌<◌}
use native.Mathlib.Omega.{arith}
use lib.Dec.{T, eqb}
use lib.ListN.{length, get_or}
use Rattle.model.specs.Finite.{keep}
use Rattle.model.specs.Field.{Field, none, ◌⊕◌, unit}
use Rattle.model.specs.Shelf.{listed}
use Rattle.theory.specs.Shelves.{Precedes}
use Rattle.theory.proofs.Field.{unit_same}
use Rattle.theory.proofs.Exec.{keep_on}
use Rattle.theory.proofs.Reach.{tells_self}
use Rattle.theory.proofs.Enumerate.{mem_map}
use Rattle.theory.proofs.Listing.{more, listed_zero, listed_next, Once, none_over, listed_over}

-- A member by its place.
pub get_d_mem : {A : Type 0} (xs : List A) (i : ℕ) (d : A) → i < length xs → Memᴰ (get_or xs i d) xs
get_d_mem [] i d h = absurd (omega arith)
get_d_mem (x ∷ xs) zero d h = Memᴰ.head refl
get_d_mem (x ∷ xs) (suc i) d h = Memᴰ.tail (get_d_mem xs i d (omega arith))

-- Each member stands in the relation to all after it.
module _ {A : Type 0} (R : A → A → Type 0) where
  unfoldable pub Rises : List A → Type 0
  Rises [] = Unit {0}
  Rises (x ∷ xs) = ((y : A) → Memᴰ y xs → R x y) × Rises xs

  pub rises_at : (d : A) (xs : List A) (i j : ℕ) → Rises xs → i < j → j < length xs → R (get_or xs i d) (get_or xs j d)
  unfolding Rises
  rises_at d [] i j r h l = absurd (omega arith)
  rises_at d (x ∷ xs) i zero r h l = absurd (omega arith)
  rises_at d (x ∷ xs) zero (suc j) r h l = r.0 (get_or xs j d) (get_d_mem xs j d (omega arith))
  rises_at d (x ∷ xs) (suc i) (suc j) r h l = rises_at d xs i j r.1 (omega arith) (omega arith)

  rises_append : (xs ys : List A) → Rises xs → Rises ys → ((x y : A) → Memᴰ x xs → Memᴰ y ys → R x y) → Rises (xs ++ ys)
  unfolding Rises
  rises_append [] ys p q f = q
  rises_append (x ∷ xs) ys p q f = (after, rises_append xs ys p.1 q (λ a b m. f a b (Memᴰ.tail m)))
    where
      after : (y : A) → Memᴰ y (xs ++ ys) → R x y
      after y m = go (Memᴰ.append_cases xs m)
        where
          go : Memᴰ y xs ⊎ Memᴰ y ys → R x y
          go (inl q) = p.0 y q
          go (inr q) = f x y (Memᴰ.head refl) q

-- A list that rises by a relation rises by another, where members so related are related by it.
rises_mono : {A : Type 0} (R S : A → A → Type 0) (xs : List A) → ((x y : A) → Memᴰ x xs → Memᴰ y xs → R x y → S x y) → Rises R xs → Rises S xs
unfolding Rises
rises_mono R S [] f r = tt
rises_mono R S (x ∷ xs) f r =
    ((λ y m. f x y (Memᴰ.head refl) (Memᴰ.tail m) (r.0 y m)), rises_mono R S xs (λ a b p q. f a b (Memᴰ.tail p) (Memᴰ.tail q)) r.1)

rises_map : {A : Type 0} (R : A → A → Type 0) (g : A → A) (xs : List A) → ((x y : A) → R x y → R (g x) (g y)) → Rises R xs → Rises R (map g xs)
unfolding Rises
rises_map R g [] f r = tt
rises_map R g (x ∷ xs) f r = ((λ y m. let u = mem_map g xs y m in rw u.2 (f x u.0 (r.0 u.0 u.1))), rises_map R g xs f r.1)

-- What is kept of a list that rises does so.
pub rises_keep : {A : Type 0} (R : A → A → Type 0) (p : A → Bool) (xs : List A) → Rises R xs → Rises R (keep p xs)
unfolding Rises keep
rises_keep R p [] r = tt
rises_keep {A} R p (x ∷ xs) r = go (p x) (rises_keep R p xs r.1)
  where
    go : (b : Bool) → Rises R (keep p xs) → Rises R (elim b as (λ _. List A) [ true ↦ x ∷ keep p xs | false ↦ keep p xs ])
    go true k = ((λ y m. r.0 y (keep_on p (λ z. T (p z)) (λ z. tells_self (p z)) xs y m).0), k)
    go false k = k

-- A field comes before another where the same tokens are added on both sides.
precedes_plus : (ks : List ℕ) (a b c : Field) → Precedes ks a b → Precedes ks (a ⊕ c) (b ⊕ c)
unfolding Precedes
precedes_plus [] a b c p = p
precedes_plus (k ∷ ks) a b c (inl h) = inl (omega arith)
precedes_plus (k ∷ ks) a b c (inr h) = inr (omega (arith, h.0), precedes_plus ks a b c h.1)

-- Of two fields at most one comes before the other.
pub precedes_one : (ks : List ℕ) (a b : Field) → Precedes ks a b → ¬ Precedes ks b a
unfolding Precedes
precedes_one [] a b p q = p
precedes_one (k ∷ ks) a b (inl h) (inl l) = omega arith
precedes_one (k ∷ ks) a b (inl h) (inr l) = omega (arith, l.0)
precedes_one (k ∷ ks) a b (inr h) (inl l) = omega (arith, h.0)
precedes_one (k ∷ ks) a b (inr h) (inr l) = precedes_one ks a b h.1 l.1

-- Members with none of a later kind, and members with some of it.
flat : (k : ℕ) (ks : List ℕ) (t : ℕ) → ¬ Memᴰ k ks → (x y : Field) → Memᴰ x (listed ks t) → Memᴰ y (listed ks t) → Precedes ks x y → Precedes (k ∷ ks) x y
unfolding Precedes
flat k ks t n x y p q h = inr (none_over k ks x n (listed_over ks t x p) ∙ sym (none_over k ks y n (listed_over ks t y q)), h)

with_some : (k : ℕ) (ks : List ℕ) (t : ℕ) → ¬ Memᴰ k ks → (x y : Field)
    → Memᴰ x (listed ks (suc t)) → Memᴰ y (map (more k ks) (listed (k ∷ ks) t)) → Precedes (k ∷ ks) x y
unfolding Precedes
with_some k ks t n x y p q =
    let u = mem_map (more k ks) (listed (k ∷ ks) t) y q in
    inl (omega (arith, none_over k ks x n (listed_over ks (suc t) x p), ap (λ (z : Field). z k) u.2, unit_same k))

-- "with the smaller count of the last kind first, then of the one before it, and so on"
pub listed_rises : (ks : List ℕ) (t : ℕ) → Once ks → Rises (Precedes ks) (listed ks t)
unfolding listed Rises Once
listed_rises [] t o = go (eqb t 0)
  where
    go : (b : Bool) → Rises (Precedes []) (elim b as (λ _. List Field) [ true ↦ none ∷ [] | false ↦ [] ])
    go true = ((λ y m. elim m [ ]), tt)
    go false = tt
listed_rises (k ∷ ks) zero o =
    rw (listed_zero k ks) (rises_mono (Precedes ks) (Precedes (k ∷ ks)) (listed ks 0) (flat k ks 0 o.0) (listed_rises ks 0 o.1))
listed_rises (k ∷ ks) (suc t) o =
    rw (listed_next k ks t) (rises_append (Precedes (k ∷ ks)) (listed ks (suc t)) (map (more k ks) (listed (k ∷ ks) t))
    (rises_mono (Precedes ks) (Precedes (k ∷ ks)) (listed ks (suc t)) (flat k ks (suc t) o.0) (listed_rises ks (suc t) o.1))
    (rises_map (Precedes (k ∷ ks)) (more k ks) (listed (k ∷ ks) t) (λ x y. precedes_plus (k ∷ ks) x y (unit k)) (listed_rises (k ∷ ks) t o))
    (λ x y p q. with_some k ks t o.0 x y p q))
