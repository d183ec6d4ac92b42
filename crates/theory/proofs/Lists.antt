-- Lists of f i, f (i + 1), .. and the model's searches over them.
use mathlib.Core.Bool.{Bool, true, false}
use mathlib.Core.List.{List, [], ◌∷◌, ◌++◌, Memᴰ}
use mathlib.Core.Logic.{◌⊎◌, inl, inr}
use mathlib.Core.Path.{◌≡◌, refl, ◌∙◌, ap, ap₂}
use Prim.Native.Nat.{ℕ, zero, suc, ◌+◌, ◌-◌, ◌≤◌, ◌<◌}
use native.Mathlib.Decide.{ℕ_discrete}
use native.Mathlib.Omega.{arith}
use lib.Dec.{T}
use lib.ListN.{get_or, get_or-eq_default}
use Rattle.model.specs.Finite.{all, pick, list_from, below, least_from}
pub use Rattle.model.proofs.Plain.{length_from}
use Rattle.theory.proofs.Exec.{Tells, tells_all, tells_map}

module _ {A : Type 0} (f : ℕ → A) where
  pub get_d_from : (i m k : ℕ) (d : A) → k < m → get_or (list_from f i m) k d ≡ f (i + k)
  unfolding list_from
  get_d_from i zero k d h = absurd (omega arith)
  get_d_from i (suc m) zero d h = let e : i ≡ i + 0 = omega arith in ap f e
  get_d_from i (suc m) (suc k) d h = let e : suc i + k ≡ i + suc k = omega arith in get_d_from (suc i) m k d (omega arith) ∙ ap f e

  pub get_d_past : (i m k : ℕ) (d : A) → m ≤ k → get_or (list_from f i m) k d ≡ d
  get_d_past i m k d h = get_or-eq_default (list_from f i m) d (rw (length_from f i m) h)

  pub mem_from : (i m : ℕ) (x : A) → Memᴰ x (list_from f i m) → (k : ℕ) × (k < m) × (x ≡ f (i + k))
  unfolding list_from
  mem_from i zero x h = elim h [ ]
  mem_from i (suc m) x h = go h (mem_from (suc i) m x)
    where
      go : Memᴰ x (f i ∷ list_from f (suc i) m) → (Memᴰ x (list_from f (suc i) m) → (k : ℕ) × (k < m) × (x ≡ f (suc i + k))) → (k : ℕ) × (k < suc m) × (x ≡ f (i + k))
      go (Memᴰ.head e) g = let z : i ≡ i + 0 = omega arith in (0, omega arith, e ∙ ap f z)
      go (Memᴰ.tail t) g = let u = g t in let z : suc i + u.0 ≡ i + suc u.0 = omega arith in (suc u.0, omega (arith, u.1), u.2 ∙ ap f z)

  pub from_mem : (i m k : ℕ) → k < m → Memᴰ (f (i + k)) (list_from f i m)
  unfolding list_from
  from_mem i zero k h = absurd (omega arith)
  from_mem i (suc m) zero h = let e : i + 0 ≡ i = omega arith in Memᴰ.head (ap f e)
  from_mem i (suc m) (suc k) h =
      let e : suc i + k ≡ i + suc k = omega arith in
      Memᴰ.tail (rw (ap f e) at (from_mem (suc i) m k (omega arith)))

  pub from_append : (i m n : ℕ) → list_from f i (m + n) ≡ list_from f i m ++ list_from f (i + m) n
  unfolding list_from
  from_append i zero n = let e : 0 + n ≡ n = omega arith in let d : i ≡ i + 0 = omega arith in ap (list_from f i) e ∙ ap (λ (j : ℕ). list_from f j n) d
  from_append i (suc m) n =
      let e : suc m + n ≡ suc (m + n) = omega arith in
      let d : suc i + m ≡ i + suc m = omega arith in
      ap (list_from f i) e
      ∙ ap (λ (xs : List A). f i ∷ xs) (from_append (suc i) m n)
      ∙ ap (λ (j : ℕ). f i ∷ (list_from f (suc i) m ++ list_from f j n)) d

-- The same list from functions that are the same on its numbers.
pub from_same : {A : Type 0} (f g : ℕ → A) (i m : ℕ) → ((k : ℕ) → i ≤ k → k < i + m → f k ≡ g k) → list_from f i m ≡ list_from g i m
unfolding list_from
from_same {A} f g i zero h = refl
from_same {A} f g i (suc m) h = ap₂ (λ (x : A) (xs : List A). x ∷ xs) (h i (omega arith) (omega arith)) (from_same f g (suc i) m (λ k l r. h k (omega arith) (omega arith)))

pub mem_below : (n k : ℕ) → Memᴰ k (below n) → k < n
unfolding below
mem_below n k h = let u = mem_from (λ i. i) 0 n k h in omega (arith, u.1, u.2)

pub below_mem : (n k : ℕ) → k < n → Memᴰ k (below n)
unfolding below
below_mem n k h = let e : 0 + k ≡ k = omega arith in rw e at (from_mem (λ i. i) 0 n k h)

pub tells_below : (p : ℕ → Bool) (P : ℕ → Type 0) → ((k : ℕ) → Tells (p k) (P k)) → (n : ℕ) → Tells (all p (below n)) ((k : ℕ) → k < n → P k)
tells_below p P f n = tells_map (λ g k h. g k (below_mem n k h)) (λ g k m. g k (mem_below n k m)) (tells_all p P f (below n))

-- The first member that passes: it is one, or none passes and it is the other value.
module _ {A : Type 0} (p : A → Bool) where
  pub first_cases : (xs : List A) (y : A) → (Memᴰ (pick p xs y) xs × T (p (pick p xs y))) ⊎ ((pick p xs y ≡ y) × ((x : A) → Memᴰ x xs → ¬ T (p x)))
  unfolding pick
  first_cases [] y = inr (refl, λ x m. elim m [ ])
  first_cases (x ∷ xs) y = go (p x) refl (first_cases xs y)
    where
      go : (b : Bool) → p x ≡ b → (Memᴰ (pick p xs y) xs × T (p (pick p xs y))) ⊎ ((pick p xs y ≡ y) × ((z : A) → Memᴰ z xs → ¬ T (p z)))
          → (Memᴰ (elim b as (λ _. A) [ true ↦ x | false ↦ pick p xs y ]) (x ∷ xs) × T (p (elim b as (λ _. A) [ true ↦ x | false ↦ pick p xs y ])))
          ⊎ (((elim b as (λ _. A) [ true ↦ x | false ↦ pick p xs y ]) ≡ y) × ((z : A) → Memᴰ z (x ∷ xs) → ¬ T (p z)))
      go true e r = inl (Memᴰ.head refl, rw e tt)
      go false e (inl r) = inl (Memᴰ.tail r.0, r.1)
      go false e (inr r) = inr (r.0, miss)
        where
          miss : (z : A) → Memᴰ z (x ∷ xs) → ¬ T (p z)
          miss z (Memᴰ.head q) t = rw (ap p q ∙ e) at t
          miss z (Memᴰ.tail m) t = r.1 z m t

-- The least number from i up, out of m, that passes; i + m if none does.
pub least_cases : (p : ℕ → Bool) (i m : ℕ)
    → ((least_from p i m ≡ i + m) ⊎ ((least_from p i m < i + m) × T (p (least_from p i m)))) × (i ≤ least_from p i m) × ((k : ℕ) → i ≤ k → k < least_from p i m → ¬ T (p k))
unfolding least_from
least_cases p i zero = (inl (omega arith), omega arith, λ k h l. absurd (omega arith))
least_cases p i (suc m) = go (p i) refl (least_cases p (suc i) m)
  where
    go : (b : Bool) → p i ≡ b
        → ((least_from p (suc i) m ≡ suc i + m) ⊎ ((least_from p (suc i) m < suc i + m) × T (p (least_from p (suc i) m)))) × (suc i ≤ least_from p (suc i) m) × ((k : ℕ) → suc i ≤ k → k < least_from p (suc i) m → ¬ T (p k))
        → (((elim b as (λ _. ℕ) [ true ↦ i | false ↦ least_from p (suc i) m ]) ≡ i + suc m)
        ⊎ (((elim b as (λ _. ℕ) [ true ↦ i | false ↦ least_from p (suc i) m ]) < i + suc m) × T (p (elim b as (λ _. ℕ) [ true ↦ i | false ↦ least_from p (suc i) m ]))))
        × (i ≤ (elim b as (λ _. ℕ) [ true ↦ i | false ↦ least_from p (suc i) m ]))
        × ((k : ℕ) → i ≤ k → k < (elim b as (λ _. ℕ) [ true ↦ i | false ↦ least_from p (suc i) m ]) → ¬ T (p k))
    go true e r = (inr (omega arith, rw e tt), omega arith, λ k h l. absurd (omega arith))
    go false e r = (end r.0, omega (arith, r.1), λ k h l. at k h l (ℕ_discrete k i))
      where
        end : (least_from p (suc i) m ≡ suc i + m) ⊎ ((least_from p (suc i) m < suc i + m) × T (p (least_from p (suc i) m)))
            → (least_from p (suc i) m ≡ i + suc m) ⊎ ((least_from p (suc i) m < i + suc m) × T (p (least_from p (suc i) m)))
        end (inl q) = inl (omega arith)
        end (inr q) = inr (omega (arith, q.0), q.1)

        at : (k : ℕ) → i ≤ k → k < least_from p (suc i) m → Dec (k ≡ i) → ¬ T (p k)
        at k h l (yes q) t = rw (ap p q ∙ e) at t
        at k h l (no q) t = r.2 k (omega arith) l t

pub is_true : (b : Bool) → T b → b ≡ true
is_true true t = refl
is_true false t = absurd t

pub is_false : (b : Bool) → ¬ T b → b ≡ false
is_false true n = absurd (n tt)
is_false false n = refl

-- The least from one number up to another is one of them, and passes where there is one.
module _ (p : ℕ → Bool) (from to : ℕ) (fits : from ≤ to) where
  Found : ℕ → Type 0
  Found k = (k ≡ from + (to - from)) ⊎ ((k < from + (to - from)) × T (p k))

  pub least_within : (from ≤ least_from p from (to - from)) × (least_from p from (to - from) ≤ to)
  unfolding Found
  least_within = let t = least_cases p from (to - from) in (t.1, go t.0)
    where
      go : Found (least_from p from (to - from)) → least_from p from (to - from) ≤ to
      go (inl e) = omega arith
      go (inr e) = omega (arith, e.0)

  pub least_test : least_from p from (to - from) < to → p (least_from p from (to - from)) ≡ true
  unfolding Found
  least_test h = is_true _ (go (least_cases p from (to - from)).0)
    where
      go : Found (least_from p from (to - from)) → T (p (least_from p from (to - from)))
      go (inl e) = absurd (omega arith)
      go (inr e) = e.1
