-- Numbers in decimal, as words of bytes.
use Rattle.std.specs.Prelude.{Bool, true, false, List, [], ◌∷◌, Option, Some, None, ℕ, ◌+◌, ◌-◌, ◌*◌, ltb, leb}
use Rattle.model.specs.Finite.{both, all}

-- The digit that a byte is, 10 where it is none.
unfoldable pub digit_of : ℕ → ℕ
digit_of c = elim (both (leb 48 c) (leb c 57)) [ true ↦ c - 48 | false ↦ 10 ]

abbrev pub is_digit : ℕ → Bool
is_digit c = ltb (digit_of c) 10

-- The value of the digits after those that come to v.
unfoldable pub value_from : ℕ → List ℕ → ℕ
value_from v [] = v
value_from v (c ∷ cs) = value_from (10 * v + digit_of c) cs

unfoldable pub some : List ℕ → Bool
some [] = false
some (c ∷ cs) = true

-- "A number that is no number or too large for its type": the number that a word of digits says, where it is at most `most`.
unfoldable pub number_of : ℕ → List ℕ → Option ℕ
number_of most word =
    elim (both (some word) (both (all is_digit word) (leb (value_from 0 word) most))) [ true ↦ Some (value_from 0 word) | false ↦ None ]
