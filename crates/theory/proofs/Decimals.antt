-- Numbers in decimal, digit by digit.
use mathlib.Core.Bool.{Bool, true, false}
use mathlib.Core.List.{List, [], ◌∷◌, ◌++◌, append_assoc}
use mathlib.Core.Path.{◌≡◌, refl, sym, ◌∙◌, ap}
use Prim.Native.Nat.{ℕ, zero, suc, ◌+◌, ◌/◌, ◌%◌, ◌≤◌, ◌<◌}
use native.Mathlib.Decide.{dec_lt}
use native.Mathlib.Omega.{arith}
use lib.Dec.{eqb}
use Rattle.model.specs.Page.{digits, number}
use Rattle.theory.specs.Meanings.{Decimal}
use Rattle.theory.proofs.Exec.{Tells, tells_eq}

-- The last digit: the whole number, or one with others before it.
module _ (f x : ℕ) (rest : List ℕ) where
  Placed : Bool → List ℕ
  Placed b = elim b [ true ↦ (48 + x % 10) ∷ rest | false ↦ digits f (x / 10) ((48 + x % 10) ∷ rest) ]

  placed : digits (suc f) x rest ≡ Placed (eqb (x / 10) 0)
  unfolding digits Placed
  placed = refl

  whole : x < 10 → digits (suc f) x rest ≡ (48 + x % 10) ∷ rest
  unfolding Placed
  whole h = placed ∙ go (eqb (x / 10) 0) (tells_eq (x / 10) 0)
    where
      go : (b : Bool) → Tells b (x / 10 ≡ 0) → Placed b ≡ (48 + x % 10) ∷ rest
      go true t = refl
      go false t = absurd (t.test (omega arith))

  before : 10 ≤ x → digits (suc f) x rest ≡ digits f (x / 10) ((48 + x % 10) ∷ rest)
  unfolding Placed
  before h = placed ∙ go (eqb (x / 10) 0) (tells_eq (x / 10) 0)
    where
      go : (b : Bool) → Tells b (x / 10 ≡ 0) → Placed b ≡ digits f (x / 10) ((48 + x % 10) ∷ rest)
      go true t = absurd (omega (arith, t.fact tt))
      go false t = refl

-- Fuel past the number does not matter, and what follows a number is kept.
digits_rest : (g f x : ℕ) (rest : List ℕ) → x < g → x < f → digits f x rest ≡ digits g x [] ++ rest
digits_rest zero f x rest h i = absurd (omega arith)
digits_rest (suc g) zero x rest h i = absurd (omega arith)
digits_rest (suc g) (suc f) x rest h i =
    go (dec_lt x 10) (λ l. digits_rest g f (x / 10) ((48 + x % 10) ∷ rest) (omega arith) (omega arith)) (λ l. digits_rest g g (x / 10) ((48 + x % 10) ∷ []) (omega arith) (omega arith))
  where
    go : Dec (x < 10) → (10 ≤ x → digits f (x / 10) ((48 + x % 10) ∷ rest) ≡ digits g (x / 10) [] ++ ((48 + x % 10) ∷ rest))
        → (10 ≤ x → digits g (x / 10) ((48 + x % 10) ∷ []) ≡ digits g (x / 10) [] ++ ((48 + x % 10) ∷ [])) → digits (suc f) x rest ≡ digits (suc g) x [] ++ rest
    go (yes l) p q = whole f x rest l ∙ ap (λ (s : List ℕ). s ++ rest) (sym (whole g x [] l))
    go (no l) p q =
        let m : 10 ≤ x = omega arith in
        before f x rest m ∙ p m ∙ sym (append_assoc (digits g (x / 10) []) ((48 + x % 10) ∷ []) rest) ∙ ap (λ (s : List ℕ). s ++ rest) (sym (before g x [] m ∙ q m))

pub decimals : (x : ℕ) → Decimal x
unfolding number
decimals x = record {
  one_digit = λ h. let e : x % 10 ≡ x = omega arith in whole x x [] h ∙ rw e refl;
  more_digits = λ h. before x x [] h ∙ digits_rest (suc (x / 10)) x (x / 10) ((48 + x % 10) ∷ []) (omega arith) (omega arith);
}
