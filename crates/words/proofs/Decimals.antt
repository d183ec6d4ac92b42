-- Laws of numbers in decimal: one digit after another.
use mathlib.Core.Bool.{Bool, true, false}
use mathlib.Core.List.{List, [], ◌∷◌}
use mathlib.Core.Path.{◌≡◌, refl, sym, ap, ◌∙◌}
use Prim.Native.Nat.{ℕ, suc, ◌+◌, ◌-◌, ◌*◌, ◌/◌, ◌≤◌, ◌<◌}
use native.Mathlib.Numerals.{add-one}
use native.Mathlib.Omega.{arith}
use lib.Dec.{leb}
use lib.ListN.{length, get_or, drop, drop_of_length-le}
use lib.Seq.{drop-cons}
use borrow.Author.Tests.{lt-ltb, le-ltb, le-leb, lt-leb}
use Rattle.std.specs.Prelude.{Option, Some, None}
use Rattle.model.specs.Finite.{both, all}
use Rattle.words.specs.Word.{digit_of, is_digit, value_from, some, number_of}

pub digit_low : (c : ℕ) → c < 48 → 10 ≡ digit_of c
unfolding digit_of
digit_low c h = rw (lt-leb 48 c h, digit_of) refl

pub digit_high : (c : ℕ) → 57 < c → 10 ≡ digit_of c
unfolding digit_of
digit_high c h = rw (le-leb 48 c (omega arith), lt-leb c 57 h, digit_of) refl

pub digit_is : (c : ℕ) → 48 ≤ c → c ≤ 57 → c - 48 ≡ digit_of c
unfolding digit_of
digit_is c h k = rw (le-leb 48 c h, le-leb c 57 k, digit_of) refl

pub ruleset digits = (digit_low, digit_high, digit_is)

-- What the bytes after those that come to v say.
unfoldable pub say_from : ℕ → ℕ → List ℕ → Option ℕ
say_from most v ws = elim (both (all is_digit ws) (leb (value_from v ws) most)) [ true ↦ Some (value_from v ws) | false ↦ None ]

never : (b : Bool) → both b false ≡ false
never true = refl
never false = refl

-- The value only grows.
value_grows : (v : ℕ) (ws : List ℕ) → v ≤ value_from v ws
unfolding value_from
value_grows v [] = omega arith
value_grows v (c ∷ cs) = omega (arith, value_grows (10 * v + digit_of c) cs)

module _ (most v : ℕ) (c : ℕ) (cs : List ℕ) where
  say_other : 9 < digit_of c → say_from most v (c ∷ cs) ≡ None
  unfolding say_from all
  say_other h = rw (le-ltb (digit_of c) 10 h, all, say_from) refl

  say_over : most < 10 * v + digit_of c → say_from most v (c ∷ cs) ≡ None
  unfolding say_from value_from
  say_over h =
      let l : most < value_from (10 * v + digit_of c) cs = omega (arith, value_grows (10 * v + digit_of c) cs) in
      let e : both (all is_digit (c ∷ cs)) (leb (value_from (10 * v + digit_of c) cs) most) ≡ false =
      ap (both (all is_digit (c ∷ cs))) (lt-leb (value_from (10 * v + digit_of c) cs) most l) ∙ never (all is_digit (c ∷ cs)) in
      ap (λ (b : Bool). elim b as (λ _. Option ℕ) [ true ↦ Some (value_from (10 * v + digit_of c) cs) | false ↦ None ]) e

  say_on : digit_of c ≤ 9 → say_from most v (c ∷ cs) ≡ say_from most (10 * v + digit_of c) cs
  unfolding say_from all value_from
  say_on h = rw (lt-ltb (digit_of c) 10 (omega arith), all, say_from) refl

-- No byte is left.
ended : (most v : ℕ) → v ≤ most → say_from most v [] ≡ Some v
unfolding say_from all value_from
ended most v k = rw (le-leb v most k, say_from) refl

-- The bytes before i came to v.
pub record Reading (most : ℕ) (word : List ℕ) (v i : ℕ) : Type 0 where
  pub within : i ≤ length word
  pub small : v ≤ most
  pub same : say_from most v (drop i word) ≡ number_of most word

module _ (most : ℕ) (word : List ℕ) where
  pub none : length word ≡ 0 → None ≡ number_of most word
  unfolding number_of some
  none e = go word e
    where
      go : (ws : List ℕ) → length ws ≡ 0 → None ≡ number_of most ws
      go [] e = refl
      go (c ∷ cs) e = absurd (omega arith)

  pub reading_starts : ¬ (length word ≡ 0) → Reading most word 0 0
  unfolding number_of some say_from
  reading_starts n = record { within = omega arith; small = omega arith; same = go word n }
    where
      go : (ws : List ℕ) → ¬ (length ws ≡ 0) → say_from most 0 (drop 0 ws) ≡ number_of most ws
      go [] n = absurd (n refl)
      go (c ∷ cs) n = refl

  module _ (v i : ℕ) (so_far : Reading most word v i) where
    module _ (h : i < length word) where
      here : say_from most v (get_or word i 0 ∷ drop (suc i) word) ≡ number_of most word
      here = ap (say_from most v) (sym (drop-cons word i 0 h)) ∙ so_far.same

      pub reading_other : digit_of (get_or word i 0) ≡ 10 → None ≡ number_of most word
      reading_other e = sym (say_other most v (get_or word i 0) (drop (suc i) word) (omega arith)) ∙ here

      module _ (d : ℕ) (e : d ≡ digit_of (get_or word i 0)) (k : d < 10) (m : 9 ≤ most) where
        pub reading_over : (most - d) / 10 < v → None ≡ number_of most word
        reading_over l = sym (say_over most v (get_or word i 0) (drop (suc i) word) (omega arith)) ∙ here

        pub reading_on : v ≤ (most - d) / 10 → Reading most word (10 * v + d) (i + 1)
        reading_on l = record {
          within = omega arith;
          small = omega arith;
          same = rw (e, add-one) (sym (say_on most v (get_or word i 0) (drop (suc i) word) (omega arith)) ∙ here);
        }

    pub reading_ends : length word ≤ i → Some v ≡ number_of most word
    reading_ends h = sym (ended most v so_far.small) ∙ ap (say_from most v) (sym (drop_of_length-le word {i = i} h)) ∙ so_far.same
