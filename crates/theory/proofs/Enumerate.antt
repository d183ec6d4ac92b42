-- The model's list of the fields of given kinds and norm holds those fields, and all of them.
use mathlib.Core.Bool.{Bool, true, false}
use mathlib.Core.List.Memᴰ
use mathlib.Core.List.{List, [], ◌∷◌, map, Memᴰ}
use mathlib.Core.Logic.{◌⊎◌, inl, inr}
use mathlib.Core.Path.{◌≡◌, refl, sym, ◌∙◌, ap, fun_ext}
use Prim.Native.Nat.{ℕ, zero, suc, ◌+◌, ◌-◌, ◌*◌, ◌≤◌, ◌<◌}
use native.Mathlib.Decide.{ℕ_discrete, dec_lt}
use native.Mathlib.Nat.{mul-le-mul_left}
use native.Mathlib.Omega.{arith}
use lib.Dec.{T, eqb, leb, leb→le, le→leb}
use Rattle.model.specs.Finite.{concat, below}
use Rattle.model.specs.Field.{Field, none, ◌⊕◌, times, unit, weigh}
use Rattle.model.specs.Base.{fields_of_norm}
use Rattle.theory.proofs.Field.{unit_same, unit_other, weigh_same}
use Rattle.theory.proofs.Exec.{Tells, tells_eq}
use Rattle.theory.proofs.Lists.{below_mem}

module _ {A B : Type 0} (f : A → B) where
  pub mem_map : (xs : List A) (y : B) → Memᴰ y (map f xs) → (x : A) × Memᴰ x xs × (y ≡ f x)
  mem_map [] y h = elim h [ ]
  mem_map (x ∷ xs) y (Memᴰ.head e) = (x, Memᴰ.head refl, e)
  mem_map (x ∷ xs) y (Memᴰ.tail m) = let u = mem_map xs y m in (u.0, Memᴰ.tail u.1, u.2)

  pub map_mem : (x : A) {xs : List A} → Memᴰ x xs → Memᴰ (f x) (map f xs)
  map_mem x (Memᴰ.head e) = Memᴰ.head (ap f e)
  map_mem x (Memᴰ.tail m) = Memᴰ.tail (map_mem x m)

module _ {A : Type 0} where
  pub mem_concat : (xss : List (List A)) (y : A) → Memᴰ y (concat xss) → (xs : List A) × Memᴰ xs xss × Memᴰ y xs
  unfolding concat
  mem_concat [] y h = elim h [ ]
  mem_concat (xs ∷ xss) y h = go (Memᴰ.append_cases xs h) (mem_concat xss y)
    where
      go : Memᴰ y xs ⊎ Memᴰ y (concat xss) → (Memᴰ y (concat xss) → (zs : List A) × Memᴰ zs xss × Memᴰ y zs)
          → (zs : List A) × Memᴰ zs (xs ∷ xss) × Memᴰ y zs
      go (inl m) r = (xs, Memᴰ.head refl, m)
      go (inr m) r = let u = r m in (u.0, Memᴰ.tail u.1, u.2)

  pub concat_mem : (xs : List A) (y : A) {xss : List (List A)} → Memᴰ xs xss → Memᴰ y xs → Memᴰ y (concat xss)
  unfolding concat
  concat_mem xs y (Memᴰ.head {xs = xss} e) m = Memᴰ.append_left (concat xss) (rw e at m)
  concat_mem xs y (Memᴰ.tail {x = x} p) m = Memᴰ.append_right x (concat_mem xs y p m)

module _ (p : ℕ → Bool) (w : ℕ → ℕ) where
  -- A field of kinds below n that the test lets through.
  abbrev pub Over : ℕ → Field → Type 0
  Over n a = (k : ℕ) → 0 < a k → (k < n) × T (p k)

  -- The fields with t of kind n besides those below it.
  some : ℕ → ℕ → ℕ → List Field
  some n v t = elim (leb (t * w n) v) [ true ↦ map (λ a. a ⊕ times t (unit n)) (fields_of_norm n p w (v - t * w n)) | false ↦ [] ]

  pub fields_sound : (n v : ℕ) (a : Field) → Memᴰ a (fields_of_norm n p w v) → (weigh n w a ≡ v) × Over n a
  unfolding fields_of_norm weigh some
  fields_sound zero v a h = go (eqb v 0) (tells_eq v 0) h
    where
      go : (b : Bool) → Tells b (v ≡ 0) → Memᴰ a (elim b as (λ _. List Field) [ true ↦ none ∷ [] | false ↦ [] ]) → (0 ≡ v) × Over 0 a
      go true t (Memᴰ.head e) = (sym (t.fact tt), λ k q. absurd (omega (arith, ap (λ (x : Field). x k) e)))
      go true t (Memᴰ.tail m) = elim m [ ]
      go false t m = elim m [ ]
  fields_sound (suc n) v a h = go (p n) refl (fields_sound n) h
    where
      Goal : Type 0
      Goal = (weigh n w a + a n * w n ≡ v) × Over (suc n) a

      IH : Type 0
      IH = (u : ℕ) (b : Field) → Memᴰ b (fields_of_norm n p w u) → (weigh n w b ≡ u) × Over n b

      part : T (p n) → IH → (t : ℕ) (ok : Bool) → leb (t * w n) v ≡ ok
          → Memᴰ a (elim ok as (λ _. List Field) [ true ↦ map (λ b. b ⊕ times t (unit n)) (fields_of_norm n p w (v - t * w n)) | false ↦ [] ]) → Goal
      part q ih t false e m = elim m [ ]
      part q ih t true e m = (
        rw (same, z) (omega (arith, r.0, i)),
        (λ k g. pick k g (ℕ_discrete k n)),
      )
        where
          i : t * w n ≤ v
          i = leb→le (t * w n) v (rw e tt)

          x : (b : Field) × Memᴰ b (fields_of_norm n p w (v - t * w n)) × (a ≡ b ⊕ times t (unit n))
          x = mem_map (λ b. b ⊕ times t (unit n)) (fields_of_norm n p w (v - t * w n)) a m

          b : Field
          b = x.0

          r : (weigh n w b ≡ v - t * w n) × Over n b
          r = ih (v - t * w n) b x.1

          none_at : (k : ℕ) → ¬ (k < n) → b k ≡ 0
          none_at k g = go (dec_lt 0 (b k))
            where
              go : Dec (0 < b k) → b k ≡ 0
              go (yes h) = absurd (g (r.1 k h).0)
              go (no h) = omega arith

          below_n : (k : ℕ) → ¬ (k ≡ n) → a k ≡ b k
          below_n k g = ap (λ (y : Field). y k) x.2 ∙ rw (unit_other n k g) (omega arith)

          same : weigh n w a ≡ weigh n w b
          same = weigh_same n w a b (λ k g. below_n k (λ y. omega arith))

          z : a n ≡ t
          z = ap (λ (y : Field). y n) x.2 ∙ rw (unit_same n, none_at n (λ y. omega arith)) (omega arith)

          pick : (k : ℕ) → 0 < a k → Dec (k ≡ n) → (k < suc n) × T (p k)
          pick k g (yes y) = (omega arith, rw y q)
          pick k g (no y) = let s = r.1 k (rw (← (below_n k y)) g) in (omega (arith, s.0), s.1)

      go : (ok : Bool) → p n ≡ ok → IH
          → Memᴰ a (elim ok as (λ _. List Field) [ true ↦ concat (map (some n v) (below (suc v))) | false ↦ fields_of_norm n p w v ]) → Goal
      go true e ih m =
          let u = mem_concat (map (some n v) (below (suc v))) a m in
          let t = mem_map (some n v) (below (suc v)) u.0 u.1 in
          part (rw e tt) ih t.0 (leb (t.0 * w n) v) refl (rw t.2 at u.2)
      go false e ih m = let r = ih v a m in (rw (zero_at (dec_lt 0 (a n)) r.1) (omega (arith, r.0)), λ k q. let s = r.1 k q in (omega (arith, s.0), s.1))
        where
          zero_at : Dec (0 < a n) → Over n a → a n ≡ 0
          zero_at (yes q) f = absurd (omega (arith, (f n q).0))
          zero_at (no q) f = omega arith

  pub fields_complete : (n v : ℕ) (a : Field) → weigh n w a ≡ v → Over n a → ((k : ℕ) → 0 < a k → 0 < w k) → Memᴰ a (fields_of_norm n p w v)
  unfolding fields_of_norm weigh some
  fields_complete zero v a e f g = go (eqb v 0) (tells_eq v 0)
    where
      empty : (k : ℕ) → Dec (0 < a k) → a k ≡ 0
      empty k (yes h) = absurd (omega (arith, (f k h).0))
      empty k (no h) = omega arith

      go : (b : Bool) → Tells b (v ≡ 0) → Memᴰ a (elim b as (λ _. List Field) [ true ↦ none ∷ [] | false ↦ [] ])
      go true t = Memᴰ.head (fun_ext (λ k. empty k (dec_lt 0 (a k))))
      go false t = absurd (t.test (sym e))
  fields_complete (suc n) v a e f g = go (p n) refl (fields_complete n)
    where
      IH : Type 0
      IH = (u : ℕ) (b : Field) → weigh n w b ≡ u → Over n b → ((k : ℕ) → 0 < b k → 0 < w k) → Memᴰ b (fields_of_norm n p w u)

      t : ℕ
      t = a n

      b : Field
      b k = a k - t * unit n k

      apart : (k : ℕ) → ¬ (k ≡ n) → b k ≡ a k
      apart k q = rw (unit_other n k q) (omega arith)

      split : (k : ℕ) → Dec (k ≡ n) → a k ≡ b k + t * unit n k
      split k (yes q) = rw (q, unit_same n) (omega arith)
      split k (no q) = rw (unit_other n k q) (omega arith)

      b_over : (k : ℕ) → 0 < b k → Dec (k ≡ n) → (k < n) × T (p k)
      b_over k h (yes q) = absurd (let z : b k ≡ 0 = rw (q, unit_same n) (omega arith) in omega arith)
      b_over k h (no q) = let s = f k (rw (← (apart k q)) h) in (omega (arith, s.0), s.1)

      b_live : (k : ℕ) → 0 < b k → 0 < w k
      b_live k h = g k (omega arith)

      b_weigh : weigh n w b ≡ weigh n w a
      b_weigh = weigh_same n w b a (λ k h. apart k (λ q. omega arith))

      small : Dec (0 < t) → t ≤ t * w n
      small (yes h) = omega (arith, mul-le-mul_left t (g n h))
      small (no h) = omega arith

      fits : (ok : Bool) → leb (t * w n) v ≡ ok → Memᴰ b (fields_of_norm n p w (v - t * w n))
          → Memᴰ a (elim ok as (λ _. List Field) [ true ↦ map (λ x. x ⊕ times t (unit n)) (fields_of_norm n p w (v - t * w n)) | false ↦ [] ])
      fits true q m = Memᴰ.cast (fun_ext (λ k. split k (ℕ_discrete k n))) (map_mem (λ x. x ⊕ times t (unit n)) b m)
      fits false q m = absurd (rw q at (le→leb (t * w n) v (omega arith)))

      go : (ok : Bool) → p n ≡ ok → IH → Memᴰ a (elim ok as (λ _. List Field) [ true ↦ concat (map (some n v) (below (suc v))) | false ↦ fields_of_norm n p w v ])
      go true q ih =
          concat_mem (some n v t) a (map_mem (some n v) t (below_mem (suc v) t (omega (arith, small (dec_lt 0 t)))))
          (fits (leb (t * w n) v) refl (ih (v - t * w n) b (omega (arith, b_weigh)) (λ k h. b_over k h (ℕ_discrete k n)) b_live))
      go false q ih = ih v a whole (λ k h. under k h (ℕ_discrete k n)) g
        where
          zero_at : Dec (0 < a n) → a n ≡ 0
          zero_at (yes h) = absurd (rw q at (f n h).1)
          zero_at (no h) = omega arith

          whole : weigh n w a ≡ v
          whole = let z : a n * w n ≡ 0 = rw (zero_at (dec_lt 0 (a n))) (omega arith) in omega arith

          under : (k : ℕ) → 0 < a k → Dec (k ≡ n) → (k < n) × T (p k)
          under k h (yes r) = absurd (let z : a k ≡ 0 = ap a r ∙ zero_at (dec_lt 0 (a n)) in omega arith)
          under k h (no r) = let s = f k h in (omega (arith, s.0), s.1)
