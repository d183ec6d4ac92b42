-- The check of two field numbers.
use Rattle.std.specs.Prelude.{not, List, [], ◌∷◌, ℕ, ltb}
use Rattle.model.specs.Refusal.{Check, check, first_of}
use Rattle.model.specs.Answer.{Answer, refused, given}
use Rattle.sheet.specs.declared.reader.Card.{Card}
use Rattle.validation.specs.Outcome.{outcome}

-- "11 a field number too large": the first of the two numbers at place 0, the second at place 1.
abbrev pub field_checks : ℕ → ℕ → ℕ → List Check
field_checks fields first second = check 11 0 (not (ltb first fields)) ∷ check 11 1 (not (ltb second fields)) ∷ []

-- What a sheet's own checks came to and, where it passed them, what the check of two field numbers comes to.
unfoldable pub with_fields : ℕ → ℕ → Answer Card → Answer Card
with_fields first second (given c) = outcome c (first_of (field_checks c.fields first second))
with_fields first second (refused number place) = refused number place
