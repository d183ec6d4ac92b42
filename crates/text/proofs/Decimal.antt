-- Decimal numbers: their last digit, how many digits they have.
use mathlib.Core.List.{List, [], ◌∷◌, ◌++◌}
use mathlib.Core.Path.{◌≡◌, sym, ◌∙◌, ap}
use Prim.Native.Nat.{ℕ, zero, suc, ◌+◌, ◌/◌, ◌%◌, ◌^◌, ◌≤◌, ◌<◌}
use native.Mathlib.Decide.{dec_lt}
use native.Mathlib.Nat.{pow-suc}
use native.Mathlib.Omega.{arith}
use lib.ListN.{length, length-append}
use Rattle.model.specs.Page.{number}
use Rattle.theory.proofs.Decimals.{decimals}
use Rattle.text.specs.Appended.{Appended}
use Rattle.text.specs.Lengths.{most_digits}
use Rattle.text.proofs.Append.{then, reads_as}

-- A number below 10 is its one digit.
pub number_small : (x : ℕ) → x < 10 → number x ≡ (48 + x % 10) ∷ []
number_small x h = let e : x % 10 ≡ x = omega arith in (decimals x).one_digit h ∙ ap (λ (d : ℕ). (48 + d) ∷ []) (sym e)

-- Any other is the number without its last digit, then that digit.
pub number_more : (x : ℕ) → 10 ≤ x → number x ≡ number (x / 10) ++ ((48 + x % 10) ∷ [])
number_more x h = (decimals x).more_digits h

-- A number has one digit, or one more than without its last; in any case some.
pub length_small : (x : ℕ) → x < 10 → length (number x) ≡ 1
length_small x h = ap length (number_small x h)

pub length_more : (x : ℕ) → 10 ≤ x → length (number x) ≡ length (number (x / 10)) + 1
length_more x h = ap length (number_more x h) ∙ length-append (number (x / 10)) ((48 + x % 10) ∷ [])

pub length_some : (x : ℕ) → 1 ≤ length (number x)
length_some x = go (dec_lt x 10)
  where
    go : Dec (x < 10) → 1 ≤ length (number x)
    go (yes h) = omega (arith, length_small x h)
    go (no h) = omega (arith, length_more x (omega arith))

-- A number below 10 ^ k, for a k from 1 up, has at most k digits.
pub number_digits : (k x : ℕ) → x < 10 ^ suc k → length (number x) ≤ suc k
number_digits zero x h = omega (arith, length_small x (omega (arith, h)))
number_digits (suc k) x h = go (dec_lt x 10) (λ l. number_digits k (x / 10) l)
  where
    fewer : x / 10 < 10 ^ suc k
    fewer = omega (arith, h, pow-suc 10 (suc k))

    go : Dec (x < 10) → (x / 10 < 10 ^ suc k → length (number (x / 10)) ≤ suc k) → length (number x) ≤ suc (suc k)
    go (yes l) r = omega (arith, length_small x l)
    go (no l) r = omega (arith, length_more x (omega arith), r fewer)

-- A number of 64 bits has at most `most_digits` digits.
pub number_most : (x : ℕ) → x < 2 ^ 64 → length (number x) ≤ most_digits
number_most x h = number_digits 19 x (omega arith)

-- A number's digits are appended: the only one; those before the last, then the last.
module _ {x y i k : ℕ} {b d : List ℕ} (e : y ≡ 48 + x % 10) where
  pub digit_only : x < 10 → Appended 1 b i (y ∷ []) d k → Appended (length (number x)) b i (number x) d k
  digit_only h p = reads_as (length (number x)) (number x) p (omega (arith, length_small x h)) (ap (λ (z : ℕ). z ∷ []) e ∙ sym (number_small x h))

  pub digit_last : {j : ℕ} {c : List ℕ} → 10 ≤ x → Appended (length (number (x / 10))) b i (number (x / 10)) c j → Appended 1 c j (y ∷ []) d k
      → Appended (length (number x)) b i (number x) d k
  digit_last h p q =
      reads_as (length (number x)) (number x) (then p q) (omega (arith, length_more x h)) (ap (λ (z : ℕ). number (x / 10) ++ (z ∷ [])) e ∙ sym (number_more x h))
