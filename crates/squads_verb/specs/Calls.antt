-- The call with its numbers.
use Rattle.std.specs.Prelude.{List, ℕ}
use Rattle.replies.specs.Told.{Told, told}
use Rattle.replies.specs.Numbers.{with_two}
use Rattle.squads_verb.specs.Texts.{squads_text}

-- squads WHOLE SQUAD.
unfoldable pub squads_told : List ℕ → List ℕ → Told
squads_told s = with_two (λ i j. told (squads_text s i j))
