-- The claim that every refusal has a sentence, so that a program that says why it refused never refuses in silence.
use Rattle.std.specs.Prelude.{List, ◌≡◌, ℕ, ◌<◌, length}
use Rattle.model.specs.Refusal.{Check, refusal, first_of, accept_checks, settle_checks, compare_checks, form_checks, walk_checks, row_checks, shelf_number_checks, shelf_field_checks, squads_checks, frequencies_checks}
use Rattle.sentences.specs.Sentence.{sentence_of}

-- What these checks refuse has a sentence.
abbrev pub Said : List Check → Type 0
Said checks = (k p : ℕ) → first_of checks ≡ refusal k p → 0 < length (sentence_of k p)

-- The checks of the page and of each call.
pub record Every : Type 0 where
  pub page : (s : List ℕ) → Said (accept_checks s)
  pub settle : (s : List ℕ) (size : ℕ) → Said (settle_checks s size)
  pub row : (n k size : ℕ) → Said (row_checks n k size)
  pub compare : (s : List ℕ) (i j : ℕ) → Said (compare_checks s i j)
  pub form : (s : List ℕ) (i size : ℕ) → Said (form_checks s i size)
  pub walk : (s : List ℕ) (i j limit d : ℕ) → Said (walk_checks s i j limit d)
  pub number : (s : List ℕ) (i : ℕ) → Said (shelf_number_checks s i)
  pub field : (s : List ℕ) (t x size : ℕ) → Said (shelf_field_checks s t x size)
  pub squads : (s : List ℕ) (i j size : ℕ) → Said (squads_checks s i j size)
  pub frequencies : (s : List ℕ) (i t size : ℕ) → Said (frequencies_checks s i t size)
