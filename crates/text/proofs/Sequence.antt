-- A loop that appends one text after another: f a, f (a + 1), .., each of at most m bytes.
use mathlib.Core.List.{List, [], ◌∷◌, ◌++◌, map, append-nil, append_assoc}
use mathlib.Core.Path.{◌≡◌, refl, sym, ◌∙◌, ap}
use Prim.Native.Nat.{ℕ, zero, suc, ◌+◌, ◌*◌, ◌-◌, ◌≤◌}
use native.Mathlib.Nat.{mul-suc}
use native.Mathlib.Numerals.{add-one}
use native.Mathlib.Omega.{arith}
use lib.ListN.{length, get_or, take, drop}
use lib.Seq.{take_all}
use Rattle.model.specs.Finite.{concat, list_from}
use Rattle.model.specs.Page.{bytes, number, newline, counts_of}
use Rattle.text.specs.Appended.{Appended}
use Rattle.text.specs.Count.{count_text, count_texts, counts_line, labelled_counts}
use Rattle.text.specs.Lengths.{most_digits, most_counts}
use Rattle.text.proofs.Append.{nothing, then, reads_as}

module _ (f : ℕ → List ℕ) where
  -- The texts with one more at their end.
  texts_more : (a i : ℕ) → concat (list_from f a i) ++ f (a + i) ≡ concat (list_from f a (suc i))
  unfolding concat list_from
  texts_more a zero = let e : a + 0 ≡ a = omega arith in ap f e ∙ sym (append-nil (f a))
  texts_more a (suc i) =
      let e : a + suc i ≡ suc a + i = omega arith in
      append_assoc (f a) (concat (list_from f (suc a) i)) (f (a + suc i)) ∙ ap (λ (n : ℕ). f a ++ (concat (list_from f (suc a) i) ++ f n)) e
      ∙ ap (λ (l : List ℕ). f a ++ l) (texts_more (suc a) i)

  -- None was appended yet; one more.
  pub no_text : (m a : ℕ) (b : List ℕ) (start : ℕ) → Appended (m * 0) b start (concat (list_from f a 0)) b start
  unfolding concat list_from
  no_text m a b start = reads_as (m * 0) [] (nothing b start) (omega arith) refl

  pub next_text : {m n j k start : ℕ} {b c d : List ℕ} (a i : ℕ) → Appended (m * i) b start (concat (list_from f a i)) c j → Appended m c j (f n) d k → n ≡ a + i
      → Appended (m * (i + 1)) b start (concat (list_from f a (i + 1))) d k
  next_text {m} a i p q h =
      let e = ap (λ (n : ℕ). m * n) (add-one i) ∙ mul-suc m i in
      reads_as (m * (i + 1)) (concat (list_from f a (i + 1))) (then p q) (omega arith)
      (ap (λ (n : ℕ). concat (list_from f a i) ++ f n) h ∙ texts_more a i ∙ ap (λ (n : ℕ). concat (list_from f a n)) (sym (add-one i)))

  -- One more is appended, where the loop counts from 1 up: text j comes after the j - 1 before it.
  pub later_text : {m k start : ℕ} {b c d : List ℕ} {i : ℕ} (j : ℕ) → 1 ≤ j → Appended (m * (j - 1)) b start (concat (list_from f 1 (j - 1))) c i → Appended m c i (f j) d k
      → Appended (m * (j + 1 - 1)) b start (concat (list_from f 1 (j + 1 - 1))) d k
  later_text j h p q =
      let e : j + 1 - 1 ≡ j - 1 + 1 = omega arith in
      rw e (next_text 1 (j - 1) p q (omega arith))

shifted : (f : ℕ → List ℕ) (a i : ℕ) → list_from f (suc a) i ≡ list_from (λ k. f (suc k)) a i
unfolding list_from
shifted f a zero = refl
shifted f a (suc i) = ap (λ (l : List (List ℕ)). f (suc a) ∷ l) (shifted f (suc a) i)

-- The texts of a list's elements are those by the numbers of the elements in it.
pub by_number : (f : ℕ → List ℕ) (xs : List ℕ) → list_from (λ k. f (get_or xs k 0)) 0 (length xs) ≡ map f xs
unfolding list_from
by_number f [] = refl
by_number f (x ∷ xs) = ap (λ (l : List (List ℕ)). f x ∷ l) (shifted (λ k. f (get_or (x ∷ xs) k 0)) 0 (length xs) ∙ by_number f xs)

-- The texts of a list's counts, by their numbers in it.
abbrev pub count_at : List ℕ → ℕ → List ℕ
count_at xs k = count_text (get_or xs k 0)

-- All counts of a list.
pub counts_all : {i k start : ℕ} {b d : List ℕ} (xs : List ℕ) → i ≡ length xs → Appended (most_counts i) b start (concat (list_from (count_at xs) 0 i)) d k
    → Appended (most_counts (length xs)) b start (count_texts xs) d k
unfolding count_texts
counts_all {i} xs e p =
    reads_as (most_counts (length xs)) (count_texts xs) p (omega arith)
    (ap (λ (n : ℕ). concat (list_from (count_at xs) 0 n)) e ∙ ap concat (by_number count_text xs))

-- The page has "=" before them.
pub marked : {i j k : ℕ} {b c d : List ℕ} (xs : List ℕ) → Appended 1 b i (61 ∷ []) c j → Appended (most_counts (length xs)) c j (count_texts xs) d k
    → Appended (1 + most_counts (length xs)) b i (counts_of xs) d k
unfolding bytes count_text count_texts counts_of
marked xs sign counts = reads_as (1 + most_counts (length xs)) (counts_of xs) (then sign counts) (omega arith) refl

-- A line of no counts is its end.
pub line_of_none : {i j : ℕ} {b c : List ℕ} (xs : List ℕ) → length xs ≡ 0 → Appended 1 b i (10 ∷ []) c j → Appended (1 + most_counts (length xs)) b i (counts_line xs) c j
unfolding counts_line newline bytes
line_of_none xs none end = reads_as (1 + most_counts (length xs)) (counts_line xs) end (omega arith) (line xs none)
  where
    line : (xs : List ℕ) → length xs ≡ 0 → 10 ∷ [] ≡ counts_line xs
    line [] none = refl
    line (x ∷ xs) none = absurd (omega arith)

-- The counts past the first, as a part of the list.
abbrev pub others : List ℕ → List ℕ
others xs = take (length xs - 1) (drop 1 xs)

-- A line of counts: the first, the others with a space before each, and the end of the line.
pub line_of_some : {i j k l : ℕ} {b c d e : List ℕ} (xs : List ℕ) → ¬ (length xs ≡ 0) → Appended most_digits b i (number (get_or xs 0 0)) c j
    → Appended (most_counts (length (others xs))) c j (count_texts (others xs)) d k → Appended 1 d k (10 ∷ []) e l → Appended (1 + most_counts (length xs)) b i (counts_line xs) e l
unfolding counts_line newline bytes
line_of_some xs some first rest end =
    reads_as (1 + most_counts (length xs)) (counts_line xs) (then (then first rest) end) (room xs some) (line xs some)
  where
    all_others : (x : ℕ) (xs : List ℕ) → others (x ∷ xs) ≡ xs
    all_others x xs = take_all (length (x ∷ xs) - 1) xs (omega arith)

    room : (xs : List ℕ) → ¬ (length xs ≡ 0) → most_digits + most_counts (length (others xs)) + 1 ≤ 1 + most_counts (length xs)
    room [] some = absurd (some refl)
    room (x ∷ xs) some = omega (arith, ap length (all_others x xs))

    line : (xs : List ℕ) → ¬ (length xs ≡ 0) → number (get_or xs 0 0) ++ count_texts (others xs) ++ (10 ∷ []) ≡ counts_line xs
    line [] some = absurd (some refl)
    line (x ∷ xs) some = ap (λ (ys : List ℕ). number x ++ count_texts ys ++ (10 ∷ [])) (all_others x xs)

-- The parts of counts after a text and a number.
pub labelled : (label : List ℕ) (x : ℕ) (counts : List ℕ) → label ++ number x ++ (bytes " " ++ (counts_of counts ++ bytes "\n")) ≡ labelled_counts label x counts
unfolding labelled_counts newline
labelled label x counts = simp append_assoc
