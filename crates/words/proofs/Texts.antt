-- Laws of words one after another.
use mathlib.Core.Bool.{Bool, true, false, cond}
use mathlib.Core.List.{List, [], ◌∷◌, ◌++◌}
use mathlib.Core.Path.{◌≡◌, refl, sym, ap, ◌∙◌}
use Prim.Native.Nat.{ℕ, suc, ◌+◌, ◌-◌, ◌≤◌, ◌<◌}
use native.Mathlib.Numerals.{add-one}
use native.Mathlib.Decide.{ℕ_discrete, dec_lt}
use native.Mathlib.Omega.{arith}
use lib.Dec.{eqb, ltb}
use lib.ListN.{length, take, drop, set, length-set, length-drop}
use lib.Seq.{take_all, take-suc-set, drop-drop}
use borrow.Author.Tests.{eq-eqb, ne_eqb, lt-ltb, le-ltb}
use Rattle.std.proofs.lemmas.List.Recursion.{is_position_or_len}
use Rattle.std.specs.Prelude.{Option, Some, None, position, MatchOption}
use Rattle.words.specs.Word.{number_of}
use Rattle.words.specs.Words.{first_word, started_by, words_of, most_wide, said_after, numbers_of}

-- The first word: a 0 ends it.
word_zero : (c : ℕ) (cs : List ℕ) → c ≡ 0 → first_word (c ∷ cs) ≡ []
unfolding first_word
word_zero c cs e = rw (eq-eqb c 0 e, first_word) refl

word_more : (c : ℕ) (cs : List ℕ) → ¬ (c ≡ 0) → first_word (c ∷ cs) ≡ c ∷ first_word cs
unfolding first_word
word_more c cs n = rw (ne_eqb c 0 n, first_word) refl

-- The words of a text: the first, and those after the 0 that ends it; none where no 0 does.
pub zero_first : (c : ℕ) (cs : List ℕ) → c ≡ 0 → words_of (c ∷ cs) ≡ [] ∷ words_of cs
unfolding words_of
zero_first c cs e = rw (eq-eqb c 0 e, words_of) refl

pub byte_first : (c : ℕ) (cs : List ℕ) → ¬ (c ≡ 0) → words_of (c ∷ cs) ≡ started_by c (words_of cs)
unfolding words_of
byte_first c cs n = rw (ne_eqb c 0 n, words_of) refl

pub first_within : (xs : List ℕ) → length (first_word xs) ≤ length xs
unfolding first_word
first_within [] = omega arith
first_within (c ∷ cs) = go (ℕ_discrete c 0) (first_within cs)
  where
    go : Dec (c ≡ 0) → length (first_word cs) ≤ length cs → length (first_word (c ∷ cs)) ≤ length (c ∷ cs)
    go (yes e) l = omega (arith, ap length (word_zero c cs e))
    go (no n) l = omega (arith, ap length (word_more c cs n))

-- The first byte 0 stands where the first word ends.
ends_at : (i n : ℕ) (end : Option ℕ) → i ≤ n → end ≡ cond (ltb i n) (Some i) None → MatchOption end (i ≡ n) (λ k. (k ≡ i) × (k < n))
ends_at i n end within e = go (dec_lt i n)
  where
    go : Dec (i < n) → MatchOption end (i ≡ n) (λ k. (k ≡ i) × (k < n))
    go (yes l) = rw (e ∙ ap (λ (b : Bool). cond b (Some i) None) (lt-ltb i n l)) (refl, l)
    go (no l) = rw (e ∙ ap (λ (b : Bool). cond b (Some i) None) (le-ltb i n (omega arith))) (omega arith)

pub first_end : (xs : List ℕ) (end : Option ℕ) → end ≡ position (λ c. eqb c 0) xs → MatchOption end (length (first_word xs) ≡ length xs) (λ k. (k ≡ length (first_word xs)) × (k < length xs))
unfolding first_word
first_end xs end e =
    ends_at (length (first_word xs)) (length xs) end (first_within xs) (
    e ∙ ap (λ (i : ℕ). cond (ltb i (length xs)) (Some i) None) (sym (is_position_or_len (λ ys. length (first_word ys)) (λ c. eqb c 0) refl one_more xs)))
  where
    one_more : (c : ℕ) (cs : List ℕ) → length (first_word (c ∷ cs)) ≡ cond (eqb c 0) 0 (1 + length (first_word cs))
    one_more c cs = go (eqb c 0)
      where
        go : (b : Bool) → length (elim b as (λ _. List ℕ) [ true ↦ [] | false ↦ c ∷ first_word cs ]) ≡ cond b 0 (1 + length (first_word cs))
        go true = refl
        go false = omega arith

pub words_next : (xs : List ℕ) → length (first_word xs) < length xs → words_of xs ≡ take (length (first_word xs)) xs ∷ words_of (drop (suc (length (first_word xs))) xs)
unfolding started_by
words_next [] h = absurd (omega arith)
words_next (c ∷ cs) h = go (ℕ_discrete c 0) (words_next cs)
  where
    go : Dec (c ≡ 0) → (length (first_word cs) < length cs → words_of cs ≡ take (length (first_word cs)) cs ∷ words_of (drop (suc (length (first_word cs))) cs))
        → words_of (c ∷ cs) ≡ take (length (first_word (c ∷ cs))) (c ∷ cs) ∷ words_of (drop (suc (length (first_word (c ∷ cs)))) (c ∷ cs))
    go (yes e) r = rw (word_zero c cs e) (zero_first c cs e)
    go (no n) r = rw (word_more c cs n) (byte_first c cs n ∙ ap (started_by c) (r (omega (arith, h, ap length (word_more c cs n)))))

pub words_none : (xs : List ℕ) → length xs ≤ length (first_word xs) → words_of xs ≡ []
unfolding words_of started_by
words_none [] h = refl
words_none (c ∷ cs) h = go (ℕ_discrete c 0) (words_none cs)
  where
    go : Dec (c ≡ 0) → (length cs ≤ length (first_word cs) → words_of cs ≡ []) → words_of (c ∷ cs) ≡ []
    go (yes e) r = absurd (omega (arith, h, ap length (word_zero c cs e)))
    go (no n) r = byte_first c cs n ∙ ap (started_by c) (r (omega (arith, h, ap length (word_more c cs n))))

-- Numbers that were said before others.
unfoldable pub said_first : List ℕ → Option (List ℕ) → Option (List ℕ)
said_first [] said = said
said_first (x ∷ xs) said = said_after (Some x) (said_first xs said)

first_numbers : (xs : List ℕ) → said_first xs (Some []) ≡ Some xs
unfolding said_first said_after
first_numbers [] = refl
first_numbers (x ∷ xs) = ap (said_after (Some x)) (first_numbers xs)

first_none : (xs : List ℕ) → said_first xs None ≡ None
unfolding said_first said_after
first_none [] = refl
first_none (x ∷ xs) = ap (said_after (Some x)) (first_none xs)

first_more : (xs : List ℕ) (x : ℕ) (said : Option (List ℕ)) → said_first xs (said_after (Some x) said) ≡ said_first (xs ++ (x ∷ [])) said
unfolding said_first
first_more [] x said = refl
first_more (y ∷ xs) x said = ap (said_after (Some y)) (first_more xs x said)

-- The words before the rest of a text said the first numbers of an array.
pub record Counting (most : ℕ) (text values rest : List ℕ) (count : ℕ) : Type 0 where
  pub room : count ≤ most
  pub size : length values ≡ most
  pub same : said_first (take count values) (numbers_of (most - count) (words_of rest)) ≡ numbers_of most (words_of text)

-- The part of a text from a position on.
abbrev pub part : List ℕ → ℕ → List ℕ
part text at = take (length text - at) (drop at text)

part_is : (text : List ℕ) (at : ℕ) → part text at ≡ drop at text
part_is text at = take_all (length text - at) (drop at text) (omega (arith, length-drop at text))

-- The words of a text, by the first of them and what stands from its end on.
pub words_split : (text : List ℕ) {end : ℕ} {word others : List ℕ} → (end ≡ length (first_word text)) × (end < length text) → word ≡ take end text → others ≡ drop end text
    → words_of text ≡ word ∷ words_of (part others 1)
words_split text {end} {word} {others} ends is_word is_others =
    let after : part others 1 ≡ drop (suc end) text = part_is others 1 ∙ ap (drop 1) is_others ∙ drop-drop 1 end text ∙ ap (λ (n : ℕ). drop n text) (add-one end) in
    words_next text (omega (arith, ends.0, ends.1)) ∙ ap (λ (n : ℕ). take n text ∷ words_of (drop (suc n) text)) (sym ends.0)
    ∙ ap (λ (w : List ℕ). w ∷ words_of (drop (suc end) text)) (sym is_word) ∙ ap (λ (l : List ℕ). word ∷ words_of l) (sym after)

pub counting_starts : (text values : List ℕ) → Counting (length values) text values text 0
unfolding said_first
counting_starts text values =
    let e : length values - 0 ≡ length values = omega arith in
    record { room = omega arith; size = refl; same = ap (λ (most : ℕ). numbers_of most (words_of text)) e }

module _ (most : ℕ) (text values rest : List ℕ) (count : ℕ) (so_far : Counting most text values rest count) where
  -- What is left of the text, by its words.
  goes_on : {ws : List (List ℕ)} → words_of rest ≡ ws → said_first (take count values) (numbers_of (most - count) ws) ≡ numbers_of most (words_of text)
  goes_on e = ap (λ (ws : List (List ℕ)). said_first (take count values) (numbers_of (most - count) ws)) (sym e) ∙ so_far.same

  pub counting_ends : length (first_word rest) ≡ length rest → Some (take count values) ≡ numbers_of most (words_of text)
  unfolding numbers_of
  counting_ends h = sym (first_numbers (take count values)) ∙ goes_on (words_none rest (omega arith))

  -- The first word of the rest, and what stands from its end on.
  module _ (end : ℕ) (ends : (end ≡ length (first_word rest)) × (end < length rest)) (word others : List ℕ) (is_word : word ≡ take end rest) (is_others : others ≡ drop end rest) where
    words : List (List ℕ)
    words = words_of (part others 1)

    next : words_of rest ≡ word ∷ words
    unfolding words
    next = words_split rest ends is_word is_others

    pub counting_full : most ≤ count → None ≡ numbers_of most (words_of text)
    unfolding numbers_of
    counting_full l =
        let e : most - count ≡ 0 = omega arith in
        sym (first_none (take count values)) ∙ ap (λ (m : ℕ). said_first (take count values) (numbers_of m (word ∷ words))) (sym e) ∙ goes_on next

    module _ (l : count < most) where
      said : said_first (take count values) (said_after (number_of most_wide (word)) (numbers_of (most - (count + 1)) words)) ≡ numbers_of most (words_of text)
      unfolding numbers_of
      said =
          let e : suc (most - (count + 1)) ≡ most - count = omega arith in
          ap (λ (m : ℕ). said_first (take count values) (numbers_of m (word ∷ words))) e ∙ goes_on next

      pub counting_other : number_of most_wide (word) ≡ None → None ≡ numbers_of most (words_of text)
      unfolding said_after
      counting_other e =
          sym (first_none (take count values)) ∙ ap (λ (w : Option ℕ). said_first (take count values) (said_after w (numbers_of (most - (count + 1)) words))) (sym e) ∙ said

      pub counting_on : (x : ℕ) → number_of most_wide (word) ≡ Some x → Counting most text (set values count x) (part others 1) (count + 1)
      unfolding words
      counting_on x e =
          record {
            room = omega arith;
            size = length-set values count x ∙ so_far.size;
            same =
                ap (λ (xs : List ℕ). said_first xs (numbers_of (most - (count + 1)) words)) (ap (λ (n : ℕ). take n (set values count x)) (add-one count) ∙ take-suc-set values count x (omega (arith, so_far.size)))
                ∙ sym (first_more (take count values) x (numbers_of (most - (count + 1)) words))
                ∙ ap (λ (w : Option ℕ). said_first (take count values) (said_after w (numbers_of (most - (count + 1)) words))) (sym e) ∙ said;
          }
