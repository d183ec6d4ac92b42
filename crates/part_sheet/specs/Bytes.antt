-- Bytes that are copied from one list into another, and a number that is written as two bytes.
use Rattle.std.specs.Prelude.{List, ◌≡◌, ℕ, ◌+◌, ◌≤◌, ◌<◌, length}
use Rattle.model.specs.Sheet.{byte, u16_at}

-- q is p, but for so many bytes from an offset on: these are the bytes of s from an offset of its own on.
pub record Copied (s : List ℕ) (from : ℕ) (p : List ℕ) (to count : ℕ) (q : List ℕ) : Type 0 where
  pub long : length q ≡ length p
  pub here : (i : ℕ) → i < count → byte q (to + i) ≡ byte s (from + i)
  pub before : (i : ℕ) → i < to → byte q i ≡ byte p i
  pub past : (i : ℕ) → to + count ≤ i → byte q i ≡ byte p i

-- q is p, but for the two bytes at an offset: the number that they give is x.
pub record NumberSet (x : ℕ) (p : List ℕ) (offset : ℕ) (q : List ℕ) : Type 0 where
  pub long : length q ≡ length p
  pub here : u16_at q offset ≡ x
  pub before : (i : ℕ) → i < offset → byte q i ≡ byte p i
  pub past : (i : ℕ) → offset + 2 ≤ i → byte q i ≡ byte p i
