-- Fields as the player holds them.
use Rattle.std.specs.Prelude.{List, ◌≡◌, ℕ, ◌+◌, ◌*◌, ◌≤◌, ◌<◌, length}
use Rattle.model.specs.Field.{at}
use Rattle.model.specs.Card.{fire}
use Rattle.model.specs.Sheet.{kind_count, line_of}

-- A field as the player holds it: 32 counts, no tokens but of the card's kinds, and few enough for so many rounds more.
pub record Fits (s : List ℕ) (rounds : ℕ) (a : List ℕ) : Type 0 where
  pub size : length a ≡ 32
  pub over : (k : ℕ) → kind_count s ≤ k → at a k ≡ 0
  pub room : (k : ℕ) → at a k + 255 * rounds < 1000000

-- b is the field a after it used line j. (A line leaves at most 255 tokens of a kind.)
pub record After (s : List ℕ) (j : ℕ) (a b : List ℕ) : Type 0 where
  pub field : at b ≡ fire (line_of s j) (at a)
  pub grown : (k : ℕ) → at b k ≤ at a k + 255
  pub size : length b ≡ length a
