-- The call with its numbers.
use Rattle.std.specs.Prelude.{true, false, List, ℕ, leb}
use Rattle.replies.specs.Told.{Told, told, no_call}
use Rattle.replies.specs.Numbers.{with_four_or_five}
use Rattle.walk_verb.specs.Texts.{walk_text}

-- The largest number of 32 bits: an allowance is at most that.
abbrev pub most_narrow : ℕ
most_narrow = 4294967295

-- walk I J LIMIT ALLOWANCE, and a desk that may be left out: desk 0 then. The allowance is of 32 bits; with a larger one it is no call.
unfoldable pub allowance_told : List ℕ → ℕ → ℕ → ℕ → ℕ → ℕ → Told
allowance_told s i j limit allowance desk = elim (leb allowance most_narrow) [ true ↦ told (walk_text s i j limit allowance desk) | false ↦ no_call ]

unfoldable pub walk_told : List ℕ → List ℕ → Told
walk_told s = with_four_or_five (allowance_told s)
