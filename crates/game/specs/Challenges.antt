-- The challenges to a pair of fields, and the replies to one of them.
use Rattle.std.specs.Prelude.{Bool, true, false, List, [], ◌∷◌, ℕ, ◌-◌, ltb}
use Rattle.model.specs.Field.{Field}
use Rattle.model.specs.Card.{Line, fire}
use Rattle.model.specs.Sheet.{line_count, line_of}
use Rattle.model.specs.Walk.{Seen, more, try_replies}
use Rattle.theory.specs.Game.{Side, first, second, side_of}
use Rattle.theory.specs.Counted.{leaves}
use Rattle.moves.specs.Lines.{usable, answers}

-- A challenge that has a number: its side and its line. (The Challenge of theory has beside them that the line is the card's.)
pub record Challenge : Type 0 where
  pub side : Side
  pub line : Line

-- "lines of the first side in line order, then of the second": the challenge of each number, from 0 up to twice the number of lines.
unfoldable pub challenge_of : List ℕ → ℕ → Challenge
challenge_of s i =
    elim (ltb i (line_count s)) [
      | true ↦ record { side = first; line = line_of s i }
      | false ↦ record { side = second; line = line_of s (i - line_count s) }
    ]

-- The line that the first side uses in a round, and that of the second, out of `lines`: the challenger's is the challenge's, the other's the reply.
unfoldable pub first_line : ℕ → ℕ → ℕ → ℕ
first_line lines number answer = elim (ltb number lines) [ true ↦ number | false ↦ answer ]

unfoldable pub second_line : ℕ → ℕ → ℕ → ℕ
second_line lines number answer = elim (ltb number lines) [ true ↦ answer | false ↦ number - lines ]

module _ (a b : Field) where
  -- Whether the side may use the line, and whether a line is a reply of the other side.
  abbrev pub may_challenge : Challenge → Bool
  may_challenge h = usable (side_of h.side a b) h.line

  abbrev pub may_reply : Challenge → Line → Bool
  may_reply h m = answers h.line (side_of h.side b a) m

  module _ (xs : List Line) (r : ℕ) where
    -- "replies in line order up to the first that holds": the replies by some lines, where the pairs left have r rounds.
    abbrev pub replied : Challenge → List Line → Seen
    replied h ms = try_replies (leaves h.side xs r) h.line (fire h.line (side_of h.side a b)) (side_of h.side b a) ms

    -- "the first challenge with no such reply ends the pair": the challenges in their order.
    unfoldable pub challenged : List Challenge → Seen
    challenged [] = record { holds = true; count = 0 }
    challenged (h ∷ hs) =
        elim (may_challenge h) [
          | true ↦ let s = replied h xs in elim s.holds [ true ↦ more s.count (challenged hs) | false ↦ s ]
          | false ↦ challenged hs
        ]
