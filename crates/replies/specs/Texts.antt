-- What the texts of the calls share.
use Rattle.std.specs.Prelude.{List, ℕ, ◌+◌, ◌*◌, take}
use Rattle.model.specs.Answer.{Answer, refused, given, Lent}
use Rattle.model.specs.Limits.{most_kinds}
use Rattle.text.specs.Count.{counts_line}
use Rattle.text.specs.Lengths.{letters, most_digits, most_counts}

-- The room that a call has for its text: that of settle, a line `stages S` and a row of counts for each kind. No text is longer.
abbrev pub most_text : ℕ
most_text = letters "stages " + most_digits + letters "\n" + most_kinds * (most_counts most_kinds + letters "\n")

-- An answer by the text that its value gets.
unfoldable pub worded : {A : Type 0} → (A → List ℕ) → Answer A → Answer (List ℕ)
worded text (given a) = given (text a)
worded text (refused number place) = refused number place

-- A call that writes counts, by the text that its value and the first n of the counts get, or its refusal.
unfoldable pub lent_text : {A : Type 0} → (A → List ℕ → List ℕ) → ℕ → Lent A → Answer (List ℕ)
lent_text text n wrote = worded (λ a. text a (take n wrote.lent)) wrote.answer

-- A call that writes counts and has no value, by the line of the first n of the counts, or its refusal.
unfoldable pub counts_text : ℕ → Lent (Unit {0}) → Answer (List ℕ)
counts_text n wrote = lent_text (λ _ counts. counts_line counts) n wrote
