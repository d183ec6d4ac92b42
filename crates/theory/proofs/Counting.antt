-- How many members of a list pass a test.
use mathlib.Core.Bool.{Bool, true, false}
use mathlib.Core.List.{List, [], ◌∷◌, ◌++◌, map, Memᴰ}
use mathlib.Core.Path.{◌≡◌, refl, ◌∙◌, ap}
use Prim.Native.Nat.{ℕ, suc, ◌+◌, ◌≤◌}
use native.Mathlib.Omega.{arith}
use lib.Dec.{T}
use lib.ListN.{length, length-append}
use Rattle.model.specs.Finite.{keep}
use Rattle.theory.proofs.Reach.{one, one_no, one_most}
use Rattle.theory.proofs.Shelves.{keep_append}

-- How many pass.
abbrev pub count : {A : Type 0} → (A → Bool) → List A → ℕ
count p xs = length (keep p xs)

-- Of two tests that never pass together and of which one passes just where a third does.
pub one_parts : (b c d : Bool) → (T b → T d × (¬ T c)) → (T d → ¬ T c → T b) → (T c → T d) → one b + one c ≡ one d
unfolding one
one_parts true true d f g h = absurd ((f tt).1 tt)
one_parts true false true f g h = refl
one_parts true false false f g h = absurd (f tt).0
one_parts false true true f g h = refl
one_parts false true false f g h = absurd (h tt)
one_parts false false true f g h = absurd (g tt (λ t. t))
one_parts false false false f g h = refl

module _ {A : Type 0} where
  pub count_none : (p : A → Bool) → count p [] ≡ 0
  unfolding keep
  count_none p = refl

  -- One member more counts if it passes.
  pub count_cons : (p : A → Bool) (x : A) (xs : List A) → count p (x ∷ xs) ≡ one (p x) + count p xs
  unfolding keep one
  count_cons p x xs = go (p x)
    where
      go : (b : Bool) → length {A = A} (elim b as (λ _. List A) [ true ↦ x ∷ keep p xs | false ↦ keep p xs ]) ≡ one b + count p xs
      go true = omega arith
      go false = omega arith

  -- Tests that agree on the members count the same.
  pub count_same : (p q : A → Bool) (xs : List A) → ((x : A) → Memᴰ x xs → p x ≡ q x) → count p xs ≡ count q xs
  count_same p q [] f = omega (arith, count_none p, count_none q)
  count_same p q (x ∷ xs) f =
      omega (arith, count_cons p x xs, count_cons q x xs, ap one (f x (Memᴰ.head refl)), count_same p q xs (λ y m. f y (Memᴰ.tail m)))

  -- Two tests that part what a third passes.
  pub count_parts : (p q r : A → Bool) (xs : List A) → ((x : A) → Memᴰ x xs → one (p x) + one (q x) ≡ one (r x)) → count p xs + count q xs ≡ count r xs
  count_parts p q r [] f = omega (arith, count_none p, count_none q, count_none r)
  count_parts p q r (x ∷ xs) f =
      omega (arith, count_cons p x xs, count_cons q x xs, count_cons r x xs, f x (Memᴰ.head refl), count_parts p q r xs (λ y m. f y (Memᴰ.tail m)))

  -- A test that every value passes counts all members, and no test counts more.
  pub count_all : (xs : List A) → count (λ (_ : A). true) xs ≡ length xs
  unfolding keep
  count_all [] = refl
  count_all (x ∷ xs) = ap suc (count_all xs)

  pub count_most : (p : A → Bool) (xs : List A) → count p xs ≤ length xs
  count_most p [] = omega (arith, count_none p)
  count_most p (x ∷ xs) = omega (arith, count_cons p x xs, one_most (p x), count_most p xs)

-- Of two lists; by a test that nothing passes.
module _ {A : Type 0} (p : A → Bool) where
  pub count_append : (xs ys : List A) → count p (xs ++ ys) ≡ count p xs + count p ys
  count_append xs ys = ap length (keep_append p xs ys) ∙ length-append (keep p xs) (keep p ys)

  pub count_zero : ((x : A) → ¬ T (p x)) → (xs : List A) → count p xs ≡ 0
  count_zero f [] = count_none p
  count_zero f (x ∷ xs) = omega (arith, count_cons p x xs, one_no (p x) (f x), count_zero f xs)

-- The images that pass are those of the members whose image does.
pub count_map : {A B : Type 0} (p : B → Bool) (f : A → B) (xs : List A) → count p (map f xs) ≡ count (λ x. p (f x)) xs
count_map p f [] = omega (arith, count_none p, count_none (λ x. p (f x)))
count_map p f (x ∷ xs) = omega (arith, count_cons p (f x) (map f xs), count_cons (λ y. p (f y)) x xs, count_map p f xs)
