-- The call with its numbers.
use Rattle.std.specs.Prelude.{List, ℕ}
use Rattle.replies.specs.Told.{Told, told}
use Rattle.replies.specs.Numbers.{with_two}
use Rattle.frequencies_verb.specs.Texts.{common_text}

-- common FIELD SIZE.
unfoldable pub common_told : List ℕ → List ℕ → Told
common_told s = with_two (λ i t. told (common_text s i t))
