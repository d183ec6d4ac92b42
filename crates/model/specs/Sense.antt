-- The two senses in which fields are compared: that of document 01, and the finer one of request 7 of document 02, "with the number still out".
use Rattle.std.specs.Prelude.{ℕ}
use Rattle.model.specs.Field.{Field, tokens}
use Rattle.model.specs.Card.{Card}

-- In the plain sense related fields share their norm, in the finer one their norm and their total.
pub data Sense : Type 0 where
  plain finer : Sense

-- "how many tokens are on course": a field's "token total".
abbrev pub total : Card → Field → ℕ
total c a = tokens c.kinds a
