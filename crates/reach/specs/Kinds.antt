-- The kinds of a sheet that fields hold, and those that the lines of a kind leave.
use Rattle.std.specs.Prelude.{List, ◌≡◌, ℕ, ◌<◌}
use Rattle.model.specs.Sheet.{line_count, field_count, line_of, field_of}

-- Field i holds kind k.
abbrev pub Holds : List ℕ → ℕ → ℕ → Type 0
Holds s i k = 0 < field_of s i k

-- Some field of the sheet holds kind k.
abbrev pub HeldBy : List ℕ → ℕ → Type 0
HeldBy s k = (i : ℕ) × (i < field_count s) × Holds s i k

-- Line j is of the kind given and leaves kind k.
abbrev pub Leaves : List ℕ → ℕ → ℕ → ℕ → Type 0
Leaves s kind j k = ((line_of s j).kind ≡ kind) × (0 < (line_of s j).left k)

-- Some line of the sheet, of the kind given, leaves kind k.
abbrev pub LeftBy : List ℕ → ℕ → ℕ → Type 0
LeftBy s kind k = (j : ℕ) × (j < line_count s) × Leaves s kind j k
