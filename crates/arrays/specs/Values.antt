-- The values of each answer, in the layout of its array.
use Rattle.std.specs.Prelude.{List, [], ◌∷◌, ℕ, ◌*◌}
use Rattle.model.specs.Answer.{Verdict, same, different, Shelved}
use Rattle.sheet.specs.declared.reader.Card.{Card}

-- Row's check: where the row starts in the table, and how many entries it has.
abbrev pub row_values : ℕ → ℕ → List ℕ
row_values n k = k * n ∷ n ∷ []

-- Numbers: the card's numbers of kinds, codes, lines and fields.
abbrev pub card_values : Card → List ℕ
card_values card = card.kinds ∷ card.codes ∷ card.lines ∷ card.fields ∷ []

-- Compare: 0 same, 1 different; the stage and the rounds, 0 and 0 where the fields are the same.
abbrev pub verdict_values : Verdict → List ℕ
verdict_values same = 0 ∷ 0 ∷ 0 ∷ []
verdict_values (different stage rounds) = 1 ∷ stage ∷ rounds ∷ []

-- Shelf number: the size of the field, its tokens, and its number at that size.
abbrev pub shelved_values : Shelved → List ℕ
shelved_values x = x.size ∷ x.number ∷ []
