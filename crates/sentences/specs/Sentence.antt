-- The sentences of refusals, by number and place.
use Rattle.std.specs.Prelude.{Bool, true, List, [], ◌∷◌, ◌++◌, ℕ, eqb}
use Prim.Native.String.{String}
use Rattle.model.specs.Finite.{both, pick}
use Rattle.model.specs.Page.{bytes, number, newline}
use Rattle.sentences.specs.declared.table.Place.{Place}
use Rattle.sentences.specs.declared.table.Place.TheVariants.{Only, Line, Kind}

-- A row of the table: the number of a refusal, its places (one, any line or any kind), and what is said.
pub record Sentence : Type 0 where
  pub number : ℕ
  pub places : Place
  pub words : List ℕ

abbrev pub row : ℕ → Place → String → Sentence
row k q words = record { number = k; places = q; words = bytes words ++ newline }

-- The table. The limits in it are the model's (`proofs/Worked`, `limits_said`).
unfoldable pub sentences : List Sentence
sentences =
    row 16 (Only 0) "the desk is over 7"
    ∷ row 1 (Only 0) "the sheet has under 20 bytes"
    ∷ row 2 (Only 0) "the number of kinds is not from 1 to 32"
    ∷ row 3 (Only 0) "the number of codes is not from 1 to 64"
    ∷ row 4 (Only 0) "there are over 256 lines"
    ∷ row 5 (Only 0) "there are over 64 fields"
    ∷ row 6 (Only 0) "the offset of the lines is not 20"
    ∷ row 6 (Only 1) "the offset of the fields is not where the lines end"
    ∷ row 6 (Only 2) "the total is not where the fields end"
    ∷ row 6 (Only 3) "the bytes given are not as many as the total"
    ∷ row 7 Line "its kind is not under the number of kinds"
    ∷ row 8 Line "its code is not under the number of codes"
    ∷ row 9 Kind "it has no norm, since it can not be cleared"
    ∷ row 10 Kind "its norm is over 1,000,000,000"
    ∷ row 11 (Only 0) "the first field or kind number is too large"
    ∷ row 11 (Only 1) "the second field number is too large"
    ∷ row 13 (Only 0) "the round limit is over 8"
    ∷ row 14 (Only 0) "the field or the size is over 16 tokens"
    ∷ row 15 (Only 0) "no field of this size has so large a number"
    ∷ row 17 (Only 1) "the squad is empty"
    ∷ row 18 (Only 0) "there are over 65,536 fields of this size"
    ∷ row 12 (Only 0) "a buffer or table is too short"
    ∷ []

-- What stands for a number or a place that the table does not have.
abbrev pub unsaid : Sentence
unsaid = record { number = 0; places = Only 0; words = [] }

-- Whether a row has the number k and the place p.
unfoldable pub among : Place → ℕ → Bool
among (Only q) p = eqb q p
among Line p = true
among Kind p = true

unfoldable pub has : ℕ → ℕ → Sentence → Bool
has k p s = both (eqb s.number k) (among s.places p)

-- A line or a kind is named before what is said of it.
unfoldable pub named : Place → ℕ → List ℕ
named (Only q) p = []
named Line p = bytes "line " ++ number p ++ bytes ": "
named Kind p = bytes "kind " ++ number p ++ bytes ": "

-- The sentence of a refusal by its number and place, with its newline; nothing where the table has none.
unfoldable pub sentence_of : ℕ → ℕ → List ℕ
sentence_of k p = let s = pick (has k p) sentences unsaid in named s.places p ++ s.words
