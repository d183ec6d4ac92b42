-- The texts of counts.
use Rattle.std.specs.Prelude.{List, [], ◌∷◌, ◌++◌, map, ℕ}
use Rattle.model.specs.Finite.{concat}
use Rattle.model.specs.Page.{bytes, number, newline, counts_of}

-- A count of a row or a form, with the space before it.
unfoldable pub count_text : ℕ → List ℕ
count_text x = bytes " " ++ number x

-- The counts one after another.
unfoldable pub count_texts : List ℕ → List ℕ
count_texts xs = concat (map count_text xs)

-- Counts as a line of their own: a space between two, nothing before the first.
unfoldable pub counts_line : List ℕ → List ℕ
counts_line [] = newline
counts_line (x ∷ xs) = number x ++ count_texts xs ++ newline

-- Counts after a text and a number, as on the page: `field 0 = 2 0`.
unfoldable pub labelled_counts : List ℕ → ℕ → List ℕ → List ℕ
labelled_counts label x counts = label ++ number x ++ bytes " " ++ counts_of counts ++ newline
