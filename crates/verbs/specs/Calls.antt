-- Each call with its numbers.
use Rattle.std.specs.Prelude.{List, ℕ}
use Rattle.model.specs.Sense.{Sense, plain, finer}
use Rattle.replies.specs.Told.{Told, told}
use Rattle.replies.specs.Numbers.{with_none, with_one, with_two}
use Rattle.verbs.specs.Texts.{settle_text, row_text, compare_text_in, form_text_in}

-- settle, with no number.
unfoldable pub settle_told : List ℕ → List ℕ → Told
settle_told s = with_none (told (settle_text s))

-- row K.
unfoldable pub row_told : List ℕ → List ℕ → Told
row_told s = with_one (λ k. told (row_text s k))

-- compare I J and finer I J, by their sense.
unfoldable pub compare_told_in : Sense → List ℕ → List ℕ → Told
compare_told_in m s = with_two (λ i j. told (compare_text_in m s i j))

abbrev pub compare_told : List ℕ → List ℕ → Told
compare_told = compare_told_in plain

abbrev pub finer_told : List ℕ → List ℕ → Told
finer_told = compare_told_in finer

-- form I and finer-form I, by their sense.
unfoldable pub form_told_in : Sense → List ℕ → List ℕ → Told
form_told_in m s = with_one (λ i. told (form_text_in m s i))

abbrev pub form_told : List ℕ → List ℕ → Told
form_told = form_told_in plain

abbrev pub finer_form_told : List ℕ → List ℕ → Told
finer_form_told = form_told_in finer
