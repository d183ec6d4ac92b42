-- The lines of pairs over plain values: the page's lines are these, of the sheet's verdicts.
use Rattle.std.specs.Prelude.{List, ◌++◌, ℕ, ◌-◌}
use Rattle.model.specs.Finite.{concat, list_from}
use Rattle.model.specs.Answer.{Answer, Verdict, compare_of}
use Rattle.model.specs.Page.{bytes, number, word_of}

-- `pair 0 J `: "Field 0 is paired with each later field."
unfoldable pub start_text : ℕ → List ℕ
start_text later = bytes "pair 0 " ++ number later ++ bytes " "

-- `pair 0 J same` or `pair 0 J different S R`.
unfoldable pub pair_text : ℕ → Answer Verdict → List ℕ
pair_text later answer = start_text later ++ word_of answer

-- The line of field 0 and field j.
abbrev pub pair_at : List ℕ → ℕ → List ℕ
pair_at s j = pair_text j (compare_of s 0 j)

-- The lines of the pairs of the first fields of a sheet, as many as `fields` says: "Field 0 is paired with each later field."
unfoldable pub pairs_text : List ℕ → ℕ → List ℕ
pairs_text s fields = concat (list_from (pair_at s) 1 (fields - 1))
