-- The listing of the fields of few tokens: its addition rule, its length, members and order; numbers and fields are each other's inverse.
use mathlib.Core.Bool.{Bool, true, false}
use mathlib.Core.List.Memᴰ
use mathlib.Core.List.{List, [], ◌∷◌, ◌++◌, map, map-map, map-append, append-nil, Memᴰ}
use mathlib.Core.Logic.{◌⊎◌, inl, inr}
use mathlib.Core.Path.{◌≡◌, refl, sym, ◌∙◌, ap, fun_ext}
use Prim.Native.Nat.{ℕ, zero, suc, ◌+◌, ◌-◌, ◌<◌}
use native.Mathlib.Decide.{ℕ_discrete, dec_lt}
use native.Mathlib.Omega.{arith}
use lib.Dec.{eqb}
use lib.ListN.{length, length-append, length-map}
use Rattle.model.specs.Finite.{concat, list_from, below}
use Rattle.model.specs.Field.{Field, none, ◌⊕◌, times, unit}
use Rattle.model.specs.Shelf.{entry, listed}
use Rattle.theory.proofs.Field.{unit_same, unit_other}
use Rattle.theory.proofs.Exec.{Tells, tells_eq}
use Rattle.theory.proofs.Enumerate.{mem_map, map_mem}

module _ {A : Type 0} where
  map_same : (f : A → A) → ((a : A) → f a ≡ a) → (xs : List A) → map f xs ≡ xs
  map_same f h xs = ap (λ (g : A → A). map g xs) (fun_ext h) ∙ id xs
    where
      id : (ys : List A) → map (λ (a : A). a) ys ≡ ys
      id [] = refl
      id (y ∷ ys) = ap (λ (zs : List A). y ∷ zs) (id ys)

  map_concat : (f : A → A) (xss : List (List A)) → map f (concat xss) ≡ concat (map (map f) xss)
  unfolding concat
  map_concat f [] = refl
  map_concat f (xs ∷ xss) = map-append f xs (concat xss) ∙ ap (λ (ys : List A). map f xs ++ ys) (map_concat f xss)

map_shift : {A : Type 0} (f : ℕ → A) (i m : ℕ) → map f (list_from (λ j. j) (suc i) m) ≡ map (λ j. f (suc j)) (list_from (λ j. j) i m)
unfolding list_from
map_shift f i zero = refl
map_shift f i (suc m) = ap (λ (ys : List _). f (suc i) ∷ ys) (map_shift f (suc i) m)

-- The addition rule, of the listing: the fields with none of the last kind, then those of one token less with one more of it.
module _ (k : ℕ) (ks : List ℕ) where
  abbrev pub more : Field → Field
  more a = a ⊕ unit k

  -- The part of the listing with j of the kind.
  part : ℕ → ℕ → List Field
  part t j = map (λ a. a ⊕ times j (unit k)) (listed ks (t - j))

  part_none : (t : ℕ) → part t 0 ≡ listed ks t
  unfolding part
  part_none t = let e : t - 0 ≡ t = omega arith in rw e (map_same (λ a. a ⊕ times 0 (unit k)) (λ a. fun_ext (λ j. omega arith)) (listed ks t))

  part_next : (t j : ℕ) → part (suc t) (suc j) ≡ map more (part t j)
  unfolding part
  part_next t j =
      let e : suc t - suc j ≡ t - j = omega arith in
      rw e (ap (λ (f : Field → Field). map f (listed ks (t - j))) (fun_ext (λ a. fun_ext (λ i. omega arith)))
      ∙ sym (map-map more (λ a. a ⊕ times j (unit k)) (listed ks (t - j))))

  listed_is : (t : ℕ) → listed (k ∷ ks) t ≡ concat (map (part t) (below (suc t)))
  unfolding listed part
  listed_is t = refl

  pub listed_zero : listed (k ∷ ks) 0 ≡ listed ks 0
  unfolding concat list_from below
  listed_zero = listed_is 0 ∙ append-nil (part 0 0) ∙ part_none 0

  pub listed_next : (t : ℕ) → listed (k ∷ ks) (suc t) ≡ listed ks (suc t) ++ map more (listed (k ∷ ks) t)
  unfolding concat list_from below
  listed_next t =
      listed_is (suc t)
      ∙ ap (λ (xs : List Field). xs ++ concat (map (part (suc t)) (list_from (λ j. j) 1 (suc t)))) (part_none (suc t))
      ∙ ap (λ (xs : List Field). listed ks (suc t) ++ xs) rest
    where
      rest : concat (map (part (suc t)) (list_from (λ j. j) 1 (suc t))) ≡ map more (listed (k ∷ ks) t)
      rest =
          ap concat (map_shift (part (suc t)) 0 (suc t) ∙ ap (λ (f : ℕ → List Field). map f (list_from (λ j. j) 0 (suc t))) (fun_ext (part_next t))
          ∙ sym (map-map (map more) (part t) (list_from (λ j. j) 0 (suc t))))
          ∙ sym (map_concat more (map (part t) (list_from (λ j. j) 0 (suc t))))
          ∙ ap (map more) (sym (listed_is t))

-- How many there are.
pub listed_length : (ks : List ℕ) (t : ℕ) → length (listed ks t) ≡ entry (length ks) t
unfolding listed entry
listed_length [] zero = refl
listed_length [] (suc t) = go (eqb (suc t) 0) (tells_eq (suc t) 0)
  where
    go : (b : Bool) → Tells b (suc t ≡ 0) → length {A = Field} (elim b as (λ _. List Field) [ true ↦ none ∷ [] | false ↦ [] ]) ≡ 0
    go true f = absurd (omega (arith, f.fact tt))
    go false f = refl
listed_length (k ∷ ks) zero = ap length (listed_zero k ks) ∙ listed_length ks zero
listed_length (k ∷ ks) (suc t) =
    ap length (listed_next k ks t) ∙ length-append (listed ks (suc t)) (map (more k ks) (listed (k ∷ ks) t))
    ∙ omega (arith, listed_length ks (suc t), length-map (listed (k ∷ ks) t) (more k ks), listed_length (k ∷ ks) t)

-- The tokens of the kinds of a list; fields of these kinds alone; kinds each of which is listed once.
unfoldable pub total : List ℕ → Field → ℕ
total [] a = 0
total (k ∷ ks) a = a k + total ks a

abbrev pub Over : List ℕ → Field → Type 0
Over ks a = (j : ℕ) → 0 < a j → Memᴰ j ks

unfoldable pub Once : List ℕ → Type 0
Once [] = Unit {0}
Once (k ∷ ks) = (¬ Memᴰ k ks) × Once ks

total_same : (ks : List ℕ) (a b : Field) → ((j : ℕ) → Memᴰ j ks → a j ≡ b j) → total ks a ≡ total ks b
unfolding total
total_same [] a b h = refl
total_same (k ∷ ks) a b h = omega (arith, h k (Memᴰ.head refl), total_same ks a b (λ j m. h j (Memᴰ.tail m)))

pub apart : (k : ℕ) (ks : List ℕ) (j : ℕ) → ¬ Memᴰ k ks → Memᴰ j ks → ¬ (j ≡ k)
apart k ks j n m e = n (rw e at m)

pub none_over : (k : ℕ) (ks : List ℕ) (a : Field) → ¬ Memᴰ k ks → Over ks a → a k ≡ 0
none_over k ks a n f = go (dec_lt 0 (a k))
  where
    go : Dec (0 < a k) → a k ≡ 0
    go (yes h) = absurd (n (f k h))
    go (no h) = omega arith

-- The members are the fields of these kinds and so many tokens.
pub listed_over : (ks : List ℕ) (t : ℕ) (a : Field) → Memᴰ a (listed ks t) → Over ks a
unfolding listed
listed_over [] t a m = go (eqb t 0) m
  where
    go : (b : Bool) → Memᴰ a (elim b as (λ _. List Field) [ true ↦ none ∷ [] | false ↦ [] ]) → Over [] a
    go true (Memᴰ.head e) = λ j h. absurd (omega (arith, ap (λ (x : Field). x j) e))
    go true (Memᴰ.tail q) = elim q [ ]
    go false q = elim q [ ]
listed_over (k ∷ ks) zero a m = λ j h. Memᴰ.tail (listed_over ks zero a (rw (listed_zero k ks) at m) j h)
listed_over (k ∷ ks) (suc t) a m = go (Memᴰ.append_cases (listed ks (suc t)) (rw (listed_next k ks t) at m)) (listed_over ks (suc t) a) (listed_over (k ∷ ks) t)
  where
    go : Memᴰ a (listed ks (suc t)) ⊎ Memᴰ a (map (more k ks) (listed (k ∷ ks) t)) → (Memᴰ a (listed ks (suc t)) → Over ks a)
        → ((b : Field) → Memᴰ b (listed (k ∷ ks) t) → Over (k ∷ ks) b) → Over (k ∷ ks) a
    go (inl q) f g j h = Memᴰ.tail (f q j h)
    go (inr q) f g j h = at (ℕ_discrete j k)
      where
        x : (b : Field) × Memᴰ b (listed (k ∷ ks) t) × (a ≡ more k ks b)
        x = mem_map (more k ks) (listed (k ∷ ks) t) a q

        at : Dec (j ≡ k) → Memᴰ j (k ∷ ks)
        at (yes e) = Memᴰ.head e
        at (no d) = g x.0 x.1 j (omega (arith, ap (λ (y : Field). y j) x.2, unit_other k j d))

pub listed_total : (ks : List ℕ) (t : ℕ) (a : Field) → Once ks → Memᴰ a (listed ks t) → total ks a ≡ t
unfolding listed total Once
listed_total [] t a o m = go (eqb t 0) (tells_eq t 0) m
  where
    go : (b : Bool) → Tells b (t ≡ 0) → Memᴰ a (elim b as (λ _. List Field) [ true ↦ none ∷ [] | false ↦ [] ]) → 0 ≡ t
    go true f q = sym (f.fact tt)
    go false f q = elim q [ ]
listed_total (k ∷ ks) zero a o m =
    let q = rw (listed_zero k ks) at m in
    omega (arith, listed_total ks zero a o.1 q, none_over k ks a o.0 (listed_over ks zero a q))
listed_total (k ∷ ks) (suc t) a o m =
    go (Memᴰ.append_cases (listed ks (suc t)) (rw (listed_next k ks t) at m)) (listed_total ks (suc t) a o.1) (λ b. listed_total (k ∷ ks) t b o)
  where
    go : Memᴰ a (listed ks (suc t)) ⊎ Memᴰ a (map (more k ks) (listed (k ∷ ks) t)) → (Memᴰ a (listed ks (suc t)) → total ks a ≡ suc t)
        → ((b : Field) → Memᴰ b (listed (k ∷ ks) t) → b k + total ks b ≡ t) → a k + total ks a ≡ suc t
    go (inl q) f g = omega (arith, f q, none_over k ks a o.0 (listed_over ks (suc t) a q))
    go (inr q) f g =
        let x = mem_map (more k ks) (listed (k ∷ ks) t) a q in
        let r : total ks a ≡ total ks x.0 =
        total_same ks a x.0 (λ j i. omega (arith, ap (λ (y : Field). y j) x.2, unit_other k j (apart k ks j o.0 i))) in
        omega (arith, g x.0 x.1, ap (λ (y : Field). y k) x.2, unit_same k)

-- One token of the kind less.
abbrev pub less : ℕ → Field → Field
less k a = λ j. a j - unit k j

pub less_same : (k : ℕ) (ks : List ℕ) (a : Field) (j : ℕ) → ¬ Memᴰ k ks → Memᴰ j ks → less k a j ≡ a j
less_same k ks a j n m = omega (arith, unit_other k j (apart k ks j n m))

pub less_total : (k : ℕ) (ks : List ℕ) (a : Field) (t : ℕ) → Once (k ∷ ks) → total (k ∷ ks) a ≡ suc t → 0 < a k → total (k ∷ ks) (less k a) ≡ t
unfolding total Once
less_total k ks a t o e h = omega (arith, unit_same k, total_same ks (less k a) a (λ j m. less_same k ks a j o.0 m))

-- Every field of so many tokens of these kinds agrees on them with a member.
abbrev pub Alike : List ℕ → Field → Field → Type 0
Alike ks a b = (j : ℕ) → Memᴰ j ks → a j ≡ b j

pub listed_has : (ks : List ℕ) (t : ℕ) (a : Field) → Once ks → total ks a ≡ t → (x : Field) × Memᴰ x (listed ks t) × Alike ks a x
unfolding listed total Once
listed_has [] t a o e = (none, go (eqb t 0) (tells_eq t 0), λ j m. elim m [ ])
  where
    go : (b : Bool) → Tells b (t ≡ 0) → Memᴰ none (elim b as (λ _. List Field) [ true ↦ none ∷ [] | false ↦ [] ])
    go true f = Memᴰ.head refl
    go false f = absurd (f.test (sym e))
listed_has (k ∷ ks) zero a o e = go (listed_has ks zero a o.1 (omega arith))
  where
    go : (x : Field) × Memᴰ x (listed ks 0) × Alike ks a x → (x : Field) × Memᴰ x (listed (k ∷ ks) 0) × Alike (k ∷ ks) a x
    go x = (x.0, rw (listed_zero k ks) x.1, same)
      where
        same : Alike (k ∷ ks) a x.0
        same j (Memᴰ.head d) = rw d (omega (arith, none_over k ks x.0 o.0 (listed_over ks zero x.0 x.1)))
        same j (Memᴰ.tail m) = x.2 j m
listed_has (k ∷ ks) (suc t) a o e = go (dec_lt 0 (a k)) (listed_has ks (suc t) a o.1) (listed_has (k ∷ ks) t (less k a) o)
  where
    Found : List ℕ → ℕ → Field → Type 0
    Found qs u b = (x : Field) × Memᴰ x (listed qs u) × Alike qs b x

    go : Dec (0 < a k) → (total ks a ≡ suc t → Found ks (suc t) a) → (total (k ∷ ks) (less k a) ≡ t → Found (k ∷ ks) t (less k a)) → Found (k ∷ ks) (suc t) a
    go (yes h) f g = (more k ks x.0, rw (listed_next k ks t) (Memᴰ.append_right (listed ks (suc t)) (map_mem (more k ks) x.0 x.1)), same)
      where
        x : Found (k ∷ ks) t (less k a)
        x = g (less_total k ks a t o e h)

        same : Alike (k ∷ ks) a (more k ks x.0)
        same j (Memᴰ.head d) = rw d (omega (arith, x.2 k (Memᴰ.head refl), unit_same k))
        same j (Memᴰ.tail m) = omega (arith, x.2 j (Memᴰ.tail m), unit_other k j (apart k ks j o.0 m))
    go (no h) f g = (x.0, rw (listed_next k ks t) (Memᴰ.append_left (map (more k ks) (listed (k ∷ ks) t)) x.1), same)
      where
        x : Found ks (suc t) a
        x = f (omega arith)

        same : Alike (k ∷ ks) a x.0
        same j (Memᴰ.head d) = rw d (omega (arith, none_over k ks x.0 o.0 (listed_over ks (suc t) x.0 x.1)))
        same j (Memᴰ.tail m) = x.2 j m

pub over_same : (ks : List ℕ) (a b : Field) → Over ks a → Over ks b → Alike ks a b → a ≡ b
over_same ks a b f g h = fun_ext (λ j. go j (dec_lt 0 (a j)) (dec_lt 0 (b j)))
  where
    go : (j : ℕ) → Dec (0 < a j) → Dec (0 < b j) → a j ≡ b j
    go j (yes p) q = h j (f j p)
    go j (no p) (yes q) = h j (g j q)
    go j (no p) (no q) = omega arith

pub listed_complete : (ks : List ℕ) (t : ℕ) (a : Field) → Once ks → Over ks a → total ks a ≡ t → Memᴰ a (listed ks t)
listed_complete ks t a o f e = let x = listed_has ks t a o e in rw (over_same ks a x.0 f (listed_over ks t x.0 x.1) x.2) x.1
