-- The text of each call's answer.
use Rattle.std.specs.Prelude.{List, ◌++◌, ℕ, ◌+◌, replicate}
use Rattle.model.specs.Finite.{concat, list_from}
use Rattle.model.specs.Limits.{most_kinds}
use Rattle.model.specs.Sense.{Sense}
use Rattle.model.specs.Sheet.{kind_count}
use Rattle.model.specs.Refusal.{Finding, clear, refusal}
use Rattle.model.specs.Answer.{Answer, refused, given, Verdict, settle_of, row_of, row_check_of, compare_in, forming_in}
use Rattle.model.specs.Page.{bytes, number, newline, word_of}
use Rattle.text.specs.Count.{counts_line}
use Rattle.text.specs.Lengths.{letters, most_digits, most_counts}
use Rattle.replies.specs.Texts.{worded, counts_text}

-- The room that is lent: a table and a form of any card.
unfoldable pub table_room : List ℕ
table_room = replicate 1024 0

unfoldable pub form_room : List ℕ
form_room = replicate 32 0

-- The most bytes of `stages S`.
abbrev pub most_stages : ℕ
most_stages = letters "stages " + most_digits + letters "\n"

-- The most bytes of a row: a count for every kind that a sheet may have.
abbrev pub most_row : ℕ
most_row = letters "\n" + most_counts most_kinds

-- `stages S`, and then the rows, each on a line of its own.
unfoldable pub stages_line : ℕ → List ℕ
stages_line stage = bytes "stages " ++ number stage ++ newline

unfoldable pub row_lines : ℕ → List ℕ → List ℕ
row_lines n table = concat (list_from (λ k. counts_line (row_of n k table)) 0 n)

-- settle: what Settle reports and writes.
unfoldable pub settle_text : List ℕ → Answer (List ℕ)
settle_text s = worded (λ stage. stages_line stage ++ row_lines (kind_count s) (settle_of s table_room).lent) (settle_of s table_room).answer

-- row K: the row that Row hands out of what Settle wrote, or its refusal.
unfoldable pub row_in : ℕ → ℕ → List ℕ → Finding → Answer (List ℕ)
row_in n k table clear = given (counts_line (row_of n k table))
row_in n k table (refusal number place) = refused number place

unfoldable pub row_after : List ℕ → ℕ → Answer ℕ → Answer (List ℕ)
row_after s k (given stage) = let table = (settle_of s table_room).lent in row_in (kind_count s) k table (row_check_of (kind_count s) k table)
row_after s k (refused number place) = refused number place

unfoldable pub row_text : List ℕ → ℕ → Answer (List ℕ)
row_text s k = row_after s k (settle_of s table_room).answer

-- compare I J and finer I J, by their sense: `same` or `different S R`.
unfoldable pub verdict_text : Answer Verdict → Answer (List ℕ)
verdict_text answer = worded (λ verdict. word_of (given verdict)) answer

unfoldable pub compare_text_in : Sense → List ℕ → ℕ → ℕ → Answer (List ℕ)
compare_text_in m s i j = verdict_text (compare_in m s i j)

-- form I and finer-form I, by their sense: the counts of the prime form.
unfoldable pub form_text_in : Sense → List ℕ → ℕ → Answer (List ℕ)
form_text_in m s i = counts_text (kind_count s) (forming_in m s i form_room)
