-- Words one after another, each ended by a byte 0, and the numbers that they say.
use Rattle.std.specs.Prelude.{Bool, true, false, List, [], ◌∷◌, Option, Some, None, ℕ, zero, suc, ◌≤◌, eqb, take}
use Rattle.model.specs.Finite.{both}
use Rattle.words.specs.Word.{number_of}

-- The bytes of a text before its first 0.
unfoldable pub first_word : List ℕ → List ℕ
first_word [] = []
first_word (c ∷ cs) = elim (eqb c 0) [ true ↦ [] | false ↦ c ∷ first_word cs ]

-- A byte before the first of some words; where there are none, bytes that no 0 ends are no word.
unfoldable pub started_by : ℕ → List (List ℕ) → List (List ℕ)
started_by c [] = []
started_by c (w ∷ ws) = (c ∷ w) ∷ ws

-- The words of a text, each ended by a byte 0.
unfoldable pub words_of : List ℕ → List (List ℕ)
words_of [] = []
words_of (c ∷ cs) = elim (eqb c 0) [ true ↦ [] ∷ words_of cs | false ↦ started_by c (words_of cs) ]

-- Whether two words are equal.
unfoldable pub same_word : List ℕ → List ℕ → Bool
same_word [] [] = true
same_word [] (y ∷ ys) = false
same_word (x ∷ xs) [] = false
same_word (x ∷ xs) (y ∷ ys) = both (eqb x y) (same_word xs ys)

-- The largest number of 64 bits.
abbrev pub most_wide : ℕ
most_wide = 18446744073709551615

-- A word before others.
unfoldable pub said_after : Option ℕ → Option (List ℕ) → Option (List ℕ)
said_after (Some x) (Some xs) = Some (x ∷ xs)
said_after (Some x) None = None
said_after None said = None

-- Each word is a number of 64 bits, and there are at most `most` of them; otherwise they say none.
unfoldable pub numbers_of : ℕ → List (List ℕ) → Option (List ℕ)
numbers_of most [] = Some []
numbers_of zero (w ∷ ws) = None
numbers_of (suc most) (w ∷ ws) = said_after (number_of most_wide w) (numbers_of most ws)

-- The first of an array's numbers, as many as a count says.
abbrev pub count_of : Option ℕ → List ℕ → Option (List ℕ)
count_of (Some n) values = Some (take n values)
count_of None values = None

-- A count is at most the length of the array.
abbrev pub CountWithin : Option ℕ → ℕ → Type 0
CountWithin (Some n) most = n ≤ most
CountWithin None most = Unit {0}
