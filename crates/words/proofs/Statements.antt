-- What the definitions of words and numbers come to.
use mathlib.Core.Bool.{Bool, true, false, not}
use mathlib.Core.List.{List, [], ◌∷◌, ◌++◌}
use mathlib.Core.Path.{◌≡◌, refl, sym, ap, ◌∙◌}
use Prim.Native.Nat.{ℕ, zero, suc, ◌+◌, ◌*◌, ◌/◌, ◌%◌, ◌≤◌, ◌<◌}
use native.Mathlib.Decide.{dec_lt}
use native.Mathlib.Omega.{arith}
use lib.Dec.{eqb}
use borrow.Author.Tests.{lt-ltb, le-leb, eq-eqb}
use Rattle.std.specs.Prelude.{Some}
use Rattle.model.specs.Finite.{all}
use Rattle.model.specs.Page.{number}
use Rattle.theory.proofs.Decimals.{decimals}
use Rattle.words.specs.Word.{digit_of, is_digit, value_from, some, number_of}
use Rattle.words.specs.Words.{started_by, words_of}
use Rattle.words.specs.Statements.{ended, Statements}
use Rattle.words.proofs.Decimals.{digit_is}
use Rattle.words.proofs.Texts.{zero_first, byte_first, first_end}

abbrev NoZero : List ℕ → Type 0
NoZero w = all (λ c. not (eqb c 0)) w ≡ true

-- A test that every member passes.
all_first : {A : Type 0} (p : A → Bool) (x : A) (xs : List A) → all p (x ∷ xs) ≡ true → (p x ≡ true) × (all p xs ≡ true)
unfolding all
all_first p x xs = go (p x)
  where
    go : (b : Bool) → (elim b as (λ _. Bool) [ true ↦ all p xs | false ↦ false ]) ≡ true → (b ≡ true) × (all p xs ≡ true)
    go true e = (refl, e)
    go false e = let z : ◌≡◌ {A = ℕ} 0 1 = cc in absurd (omega arith)

no_zero : (c : ℕ) → not (eqb c 0) ≡ true → ¬ (c ≡ 0)
no_zero c h e = let f : not true ≡ true = ap not (sym (eq-eqb c 0 e)) ∙ h in let z : ◌≡◌ {A = ℕ} 0 1 = cc in omega arith

word_back : (w rest : List ℕ) → NoZero w → words_of (w ++ 0 ∷ rest) ≡ w ∷ words_of rest
unfolding started_by
word_back [] rest h = zero_first 0 rest refl
word_back (c ∷ w) rest h =
    let k = all_first (λ c. not (eqb c 0)) c w h in
    byte_first c (w ++ 0 ∷ rest) (no_zero c k.0) ∙ ap (started_by c) (word_back w rest k.1)

words_back : (ws : List (List ℕ)) → all (all (λ c. not (eqb c 0))) ws ≡ true → words_of (ended ws) ≡ ws
unfolding ended words_of
words_back [] h = refl
words_back (w ∷ ws) h =
    let k = all_first (all (λ c. not (eqb c 0))) w ws h in word_back w (ended ws) k.0 ∙ ap (λ (vs : List (List ℕ)). w ∷ vs) (words_back ws k.1)

-- Digits, one more at the end.
value_last : (v : ℕ) (w : List ℕ) (c : ℕ) → value_from v (w ++ (c ∷ [])) ≡ 10 * value_from v w + digit_of c
unfolding value_from
value_last v [] c = refl
value_last v (x ∷ w) c = value_last (10 * v + digit_of x) w c

digits_last : (w : List ℕ) (c : ℕ) → all is_digit w ≡ true → is_digit c ≡ true → all is_digit (w ++ (c ∷ [])) ≡ true
unfolding all
digits_last [] c h k = rw (k, all) refl
digits_last (x ∷ w) c h k = let f = all_first is_digit x w h in rw (f.0, all) (digits_last w c f.1 k)

some_last : (w : List ℕ) (c : ℕ) → some (w ++ (c ∷ [])) ≡ true
unfolding some
some_last [] c = refl
some_last (x ∷ w) c = refl

digit_of_lem : (d : ℕ) → d < 10 → digit_of (48 + d) ≡ d
digit_of_lem d h = let e = digit_is (48 + d) (omega arith) (omega arith) in omega (arith, e)

is_digit_lem : (d : ℕ) → d < 10 → is_digit (48 + d) ≡ true
is_digit_lem d h = lt-ltb (digit_of (48 + d)) 10 (omega (arith, digit_of_lem d h))

-- A number in decimal: digits, at least one, that come to it.
pub record Decimal (x : ℕ) : Type 0 where
  pub digits : all is_digit (number x) ≡ true
  pub any : some (number x) ≡ true
  pub value : value_from 0 (number x) ≡ x

one_digit : (x : ℕ) → x < 10 → Decimal x
unfolding some all value_from
one_digit x l =
    let e = (decimals x).one_digit l in
    let comes_to : 10 * 0 + digit_of (48 + x) ≡ x = omega (arith, digit_of_lem x l) in
    record {
      digits = rw e (digits_last [] (48 + x) refl (is_digit_lem x l));
      any = rw e refl;
      value = rw e (value_last 0 [] (48 + x) ∙ comes_to);
    }

more_digits : (x : ℕ) → 10 ≤ x → Decimal (x / 10) → Decimal x
more_digits x h before =
    let e = (decimals x).more_digits h in
    let last : digit_of (48 + x % 10) ≡ x % 10 = digit_of_lem (x % 10) (omega arith) in
    let comes_to : 10 * value_from 0 (number (x / 10)) + digit_of (48 + x % 10) ≡ x = omega (arith, before.value, last) in
    record {
      digits = rw e (digits_last (number (x / 10)) (48 + x % 10) before.digits (is_digit_lem (x % 10) (omega arith)));
      any = rw e (some_last (number (x / 10)) (48 + x % 10));
      value = rw e (value_last 0 (number (x / 10)) (48 + x % 10) ∙ comes_to);
    }

decimal_below : (bound x : ℕ) → x < bound → Decimal x
decimal_below zero x h = absurd (omega arith)
decimal_below (suc bound) x h = go (dec_lt x 10) (λ l. decimal_below bound (x / 10) l)
  where
    go : Dec (x < 10) → (x / 10 < bound → Decimal (x / 10)) → Decimal x
    go (yes l) before = one_digit x l
    go (no l) before = more_digits x (omega arith) (before (omega arith))

number_back : (most x : ℕ) → x ≤ most → number_of most (number x) ≡ Some x
unfolding number_of
number_back most x h = let d = decimal_below (suc x) x (omega arith) in rw (d.any, number_of, d.digits, d.value, le-leb x most h) (ap Some d.value)

pub statements : Statements
statements = record { words = words_back; ends = λ text. first_end text _ refl; number = number_back }
