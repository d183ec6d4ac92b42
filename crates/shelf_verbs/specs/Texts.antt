-- The text of each call's answer.
use Rattle.std.specs.Prelude.{List, ◌++◌, ℕ, ◌+◌, replicate}
use Rattle.model.specs.Sheet.{kind_count}
use Rattle.model.specs.Answer.{Answer, Shelved, shelf_number_of, shelf_field_of}
use Rattle.model.specs.Page.{bytes, number, newline}
use Rattle.text.specs.Lengths.{letters, most_digits}
use Rattle.replies.specs.Texts.{worded, counts_text}

-- The room that is lent: a field of any card.
unfoldable pub shelf_room : List ℕ
shelf_room = replicate 32 0

-- The most bytes of `size S number X`.
abbrev pub most_shelved : ℕ
most_shelved = letters "size " + most_digits + letters " number " + most_digits + letters "\n"

-- number I: `size S number X`.
unfoldable pub shelved_line : ℕ → ℕ → List ℕ
shelved_line size x = bytes "size " ++ number size ++ bytes " number " ++ number x ++ newline

unfoldable pub shelved_text : Answer Shelved → Answer (List ℕ)
shelved_text answer = worded (λ shelved. shelved_line shelved.size shelved.number) answer

unfoldable pub number_text : List ℕ → ℕ → Answer (List ℕ)
number_text s i = shelved_text (shelf_number_of s i)

-- field SIZE NUMBER: the counts of the field.
unfoldable pub field_text : List ℕ → ℕ → ℕ → Answer (List ℕ)
field_text s t x = counts_text (kind_count s) (shelf_field_of s t x shelf_room)
