-- A session that is lent as an array, and what is returned where an array has no room.
use Rattle.std.specs.Prelude.{List, ℕ, suc}
use Rattle.model.specs.Limits.{last_desk}
use Rattle.model.specs.Refusal.{Finding, clear, refusal, first_of, walk_checks}
use Rattle.arrays.specs.Reply.{code_of}

-- "eight desks"
abbrev pub desks : ℕ
desks = suc last_desk

-- What a call returns where an array has no room, by what its other checks find: their refusal, else that of a short buffer.
abbrev pub short_code_by : Finding → ℕ
short_code_by clear = code_of 12 0
short_code_by (refusal number place) = code_of number place

-- What Walk returns where an array has no room: the refusal of its other checks, else that of a short buffer.
abbrev pub short_walk : List ℕ → ℕ → ℕ → ℕ → ℕ → ℕ
short_walk s i j limit d = short_code_by (first_of (walk_checks s i j limit d))
