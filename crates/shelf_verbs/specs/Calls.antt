-- Each call with its numbers.
use Rattle.std.specs.Prelude.{List, ℕ}
use Rattle.replies.specs.Told.{Told, told}
use Rattle.replies.specs.Numbers.{with_one, with_two}
use Rattle.shelf_verbs.specs.Texts.{number_text, field_text}

-- number I.
unfoldable pub number_told : List ℕ → List ℕ → Told
number_told s = with_one (λ i. told (number_text s i))

-- field SIZE NUMBER.
unfoldable pub field_told : List ℕ → List ℕ → Told
field_told s = with_two (λ t x. told (field_text s t x))
