-- What Shelf number answers, in the model's terms.
use Rattle.std.specs.Prelude.{ℕ}
use Rattle.model.specs.Answer.{Shelved}
use Rattle.numbering.specs.declared.answers.ShelfNumber.{ShelfNumber}

-- A size and a number at it, as the struct.
abbrev pub numbered : ℕ → ℕ → ShelfNumber
numbered size number = record { size = size; number = number }

-- What the struct stands for.
abbrev pub shelved : ShelfNumber → Shelved
shelved x = record { size = x.size; number = x.number }
