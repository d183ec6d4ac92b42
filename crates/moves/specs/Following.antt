-- The table of the lines that follow: flat, one row of 64 codes to a position, which is a line or the end of the lines.
use Rattle.std.specs.Prelude.{Bool, List, ◌≡◌, ℕ, ◌+◌, ◌*◌, ◌≤◌, ◌<◌, eqb, length}
use Rattle.model.specs.Field.{at}
use Rattle.model.specs.Card.{Line}
use Rattle.model.specs.Limits.{most_codes, most_lines}
use Rattle.model.specs.Sheet.{line_count, line_of}
use Rattle.moves.specs.Lines.{next_of}

-- Whether a line has a code.
abbrev pub has_code : ℕ → Line → Bool
has_code c l = eqb l.code c

-- The table has a row for each position.
abbrev pub Long : List ℕ → Type 0
Long t = length t ≡ (most_lines + 1) * most_codes

-- The row of a position holds a number for each code, and what stands after it is as it was.
pub record RowSet (i : ℕ) (number : ℕ → ℕ) (before after : List ℕ) : Type 0 where
  pub holds : (c : ℕ) → c < most_codes → at after (i * most_codes + c) ≡ number c
  pub kept : (k : ℕ) → (i + 1) * most_codes ≤ k → at after k ≡ at before k

-- In the rows from a position up stands, at each position and code, the first line from the position up that has the code, and the number of lines where there is none.
pub record FollowsFrom (s : List ℕ) (from : ℕ) (t : List ℕ) : Type 0 where
  pub long : Long t
  pub entry : (i c : ℕ) → from ≤ i → i ≤ line_count s → c < most_codes → at t (i * most_codes + c) ≡ next_of (has_code c) (line_of s) i (line_count s)

-- In all rows of the table stands, at each position and code, the first line from the position up that has the code, and the number of lines where there is none.
abbrev pub Follows : List ℕ → List ℕ → Type 0
Follows s t = FollowsFrom s 0 t
