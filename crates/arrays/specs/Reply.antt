-- What a call comes to where it is made from C: a number returned, what was lent, and an answer array.
use Rattle.std.specs.Prelude.{true, false, List, ℕ, ◌+◌, ◌*◌, ltb, length}
use Rattle.model.specs.Answer.{Answer, refused, given, written}

-- The number that a refusal returns: its own number, and 256 times its place. Where the call was done, 0 is returned.
abbrev pub code_of : ℕ → ℕ → ℕ
code_of number place = number + 256 * place

-- The number returned, and what was lent (a buffer, a session or nothing) and the answer array afterwards.
pub record Reply (B : Type 0) : Type 0 where
  pub code : ℕ
  pub lent : B
  pub values : List ℕ

-- "A refused call leaves every buffer and the session as they were", and the answer array too.
abbrev pub refusing : {B : Type 0} → ℕ → ℕ → B → List ℕ → Reply B
refusing number place before array = record { code = code_of number place; lent = before; values = array }

-- An answer's values go to the front of the answer array. An array with no room for them is refused as "buffer or table too short", after the other checks.
unfoldable pub reply_of : {B : Type 0} → Answer (List ℕ) → B → B → List ℕ → Reply B
reply_of (refused number place) before after array = refusing number place before array
reply_of (given values) before after array =
    elim (ltb (length array) (length values)) [
      | true ↦ refusing 12 0 before array
      | false ↦ record { code = 0; lent = after; values = written values array }
    ]

-- An answer by the values that a layout gives it.
abbrev pub laid_out : {A : Type 0} → (A → List ℕ) → Answer A → Answer (List ℕ)
laid_out layout (refused number place) = refused number place
laid_out layout (given a) = given (layout a)

-- The reply of a call to which nothing but the answer array is lent.
abbrev pub values_reply : List ℕ → List ℕ → Reply (Unit {0})
values_reply values array = reply_of (given values) tt tt array
