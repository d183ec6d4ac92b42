-- A text that is appended to what a lent buffer holds so far.
use Rattle.std.specs.Prelude.{List, ◌++◌, ◌≡◌, ℕ, ◌+◌, ◌≤◌, length, take, drop}

-- A buffer that held `before`, written up to `start`, now holds `after`, written up to `end`: a text of at most `most` bytes was appended.
pub record Appended (most : ℕ) (before : List ℕ) (start : ℕ) (text : List ℕ) (after : List ℕ) (end : ℕ) : Type 0 where
  pub ends : end ≡ start + length text
  pub written : take end after ≡ take start before ++ text
  -- "Bytes of a lent buffer past those named keep their values."
  pub rest : drop end after ≡ drop end before
  pub size : length after ≡ length before
  pub within : length text ≤ most
