-- Closed by computation: examples, a sentence of each kind, with the first and the last place, and numbers and places that have none; and the limits in the sentences.
use mathlib.Core.Bool.{true, false}
use mathlib.Core.List.{List, [], ◌∷◌, ◌++◌, map}
use mathlib.Core.Path.{◌≡◌, refl}
use Prim.Native.Nat.{ℕ, ◌%◌}
use Prim.Native.String.{String}
use lib.Dec.{eqb, ltb}
use lib.ListN.{length}
use Rattle.model.specs.Finite.{both, pick}
use Rattle.model.specs.Limits.{most_kinds, most_codes, most_lines, most_fields, norm_limit, most_rounds, most_tokens, most_listed, last_desk}
use Rattle.model.specs.Page.{bytes, digits, number, newline}
use Rattle.model.specs.Sheet.{lines_offset}
use Rattle.sentences.specs.Sentence.{sentences, among, has, named, sentence_of}

pub record Example : Type 0 where
  pub number : ℕ
  pub place : ℕ
  pub text : String

abbrev pub at : ℕ → ℕ → String → Example
at k p t = record { number = k; place = p; text = t }

abbrev pub examples : List Example
examples =
    at 1 0 "the sheet has under 20 bytes\n"
    ∷ at 6 1 "the offset of the fields is not where the lines end\n"
    ∷ at 6 3 "the bytes given are not as many as the total\n"
    ∷ at 7 3 "line 3: its kind is not under the number of kinds\n"
    ∷ at 8 255 "line 255: its code is not under the number of codes\n"
    ∷ at 9 0 "kind 0: it has no norm, since it can not be cleared\n"
    ∷ at 10 5 "kind 5: its norm is over 1,000,000,000\n"
    ∷ at 11 0 "the first field or kind number is too large\n"
    ∷ at 11 1 "the second field number is too large\n"
    ∷ at 12 0 "a buffer or table is too short\n"
    ∷ at 13 0 "the round limit is over 8\n"
    ∷ at 14 0 "the field or the size is over 16 tokens\n"
    ∷ at 15 0 "no field of this size has so large a number\n"
    ∷ at 16 0 "the desk is over 7\n"
    ∷ at 17 1 "the squad is empty\n"
    ∷ at 18 0 "there are over 65,536 fields of this size\n"
    ∷ at 0 0 ""
    ∷ at 1 1 ""
    ∷ at 6 4 ""
    ∷ at 14 1 ""
    ∷ at 15 1 ""
    ∷ at 16 1 ""
    ∷ at 17 0 ""
    ∷ at 18 1 ""
    ∷ []

pub worked : map (λ (e : Example). sentence_of e.number e.place) examples ≡ map (λ (e : Example). bytes e.text) examples
unfolding sentence_of sentences pick has among named bytes digits number newline
worked = refl

-- Digits, with a comma before every three.
unfoldable pub grouped : List ℕ → List ℕ
grouped [] = []
grouped (d ∷ ds) = d ∷ elim (both (ltb 0 (length ds)) (eqb (length ds % 3) 0)) [ true ↦ bytes "," ++ grouped ds | false ↦ grouped ds ]

-- Each limit in a sentence is the model's.
pub limits_said
    : map (λ (k : ℕ). sentence_of k 0) (16 ∷ 1 ∷ 2 ∷ 3 ∷ 4 ∷ 5 ∷ 6 ∷ 10 ∷ 13 ∷ 14 ∷ 18 ∷ [])
    ≡ map (λ (t : List ℕ). t ++ newline) (
    (bytes "the desk is over " ++ number last_desk)
    ∷ (bytes "the sheet has under " ++ number lines_offset ++ bytes " bytes")
    ∷ (bytes "the number of kinds is not from 1 to " ++ number most_kinds)
    ∷ (bytes "the number of codes is not from 1 to " ++ number most_codes)
    ∷ (bytes "there are over " ++ number most_lines ++ bytes " lines")
    ∷ (bytes "there are over " ++ number most_fields ++ bytes " fields")
    ∷ (bytes "the offset of the lines is not " ++ number lines_offset)
    ∷ (bytes "kind 0: its norm is over " ++ grouped (number norm_limit))
    ∷ (bytes "the round limit is over " ++ number most_rounds)
    ∷ (bytes "the field or the size is over " ++ number most_tokens ++ bytes " tokens")
    ∷ (bytes "there are over " ++ grouped (number most_listed) ++ bytes " fields of this size")
    ∷ []
    )
unfolding sentence_of sentences pick has among named grouped bytes digits number newline
limits_said = refl
