-- What the page function answers and leaves in the lent buffer.
use Rattle.std.specs.Prelude.{true, false, List, ℕ, ltb, length}
use Rattle.model.specs.Answer.{refused, given, Lent, written}
use Rattle.model.specs.Page.{printed}

-- The page of the bytes s to a lent buffer: its length, and the buffer written; "buffer .. too short" is refused as 12 at place 0, and the buffer is as it was.
unfoldable pub write_page_of : List ℕ → List ℕ → Lent ℕ
write_page_of s buffer =
    elim (ltb (length buffer) (length (printed s))) [
      | true ↦ record { answer = refused 12 0; lent = buffer }
      | false ↦ record { answer = given (length (printed s)); lent = written (printed s) buffer }
    ]
