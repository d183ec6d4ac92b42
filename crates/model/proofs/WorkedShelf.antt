-- Examples of shelf numbers (request 2 of document 02, which has none of its own), as one theorem over a list, closed by computation. Each refuses a wrong definition.
use mathlib.Core.List.{List, [], ◌∷◌, map}
use mathlib.Core.Path.{◌≡◌, refl}
use Prim.Native.Nat.{ℕ}
use native.Mathlib.Decide.{ℕ_discrete}
use Rattle.model.specs.Finite.{any, all, keep, pick, concat, list_from, below}
use Rattle.model.specs.Field.{bit, unit, weigh, agree}
use Rattle.model.specs.Card.{reaches, reached, reached_kinds}
use Rattle.model.specs.Norm.{ready, best, sweeps, card_norm, kind_norm}
use Rattle.model.specs.Shelf.{entry, listed, place_of, shelf_number, shelf_field}
use Rattle.model.specs.Sheet.{fields_offset, total_of, counts, line_of, card_of, field_of}
use Rattle.model.specs.Refusal.{first_of, header_checks, line_checks, norm_checks, sheet_checks, shelf_number_checks, shelf_field_checks}
use Rattle.model.specs.Answer.{Answer, refused, given, Lent, Shelved, written, shelf_number_of, shelf_counts, shelf_field_of}
use Rattle.model.proofs.Worked.{sheet_of, page, chain}

pub data Call : Type 0 where
  number_of : ℕ → Call
  field_by : ℕ → ℕ → List ℕ → Call

pub data Outcome : Type 0 where
  numbers : Answer Shelved → Outcome
  writes : Lent (Unit {0}) → Outcome

abbrev pub run : List ℕ → Call → Outcome
run s (number_of i) = numbers (shelf_number_of s i)
run s (field_by t x buffer) = writes (shelf_field_of s t x buffer)

pub record Example : Type 0 where
  pub sheet : List ℕ
  pub call : Call
  pub outcome : Outcome

-- Field to number: the size and the number, or the refusal.
abbrev numbered : List ℕ → ℕ → ℕ → ℕ → Example
numbered s i t x = record { sheet = s; call = number_of i; outcome = numbers (given (record { size = t; number = x })) }

abbrev unnumbered : List ℕ → ℕ → ℕ → ℕ → Example
unnumbered s i k p = record { sheet = s; call = number_of i; outcome = numbers (refused k p) }

-- Number to field: the buffer before and after, or the refusal, which leaves it.
abbrev found : List ℕ → ℕ → ℕ → List ℕ → List ℕ → Example
found s t x before after = record { sheet = s; call = field_by t x before; outcome = writes (record { answer = given tt; lent = after }) }

abbrev unfound : List ℕ → ℕ → ℕ → List ℕ → ℕ → ℕ → Example
unfound s t x buffer k p = record { sheet = s; call = field_by t x buffer; outcome = writes (record { answer = refused k p; lent = buffer }) }

-- One kind, with 16, 17 and no tokens; three kinds, with 6, 16 and 17 tokens, no count of them over 16; one kind without lines.
abbrev single : List ℕ
single = sheet_of 1 1 ((0 ∷ 0 ∷ 0 ∷ []) ∷ []) ((16 ∷ []) ∷ (17 ∷ []) ∷ (0 ∷ []) ∷ [])

abbrev triple : List ℕ
triple =
    sheet_of 3 1 ((0 ∷ 0 ∷ 0 ∷ 0 ∷ 0 ∷ []) ∷ (1 ∷ 0 ∷ 0 ∷ 0 ∷ 0 ∷ []) ∷ (2 ∷ 0 ∷ 0 ∷ 0 ∷ 0 ∷ []) ∷ [])
    ((3 ∷ 1 ∷ 2 ∷ []) ∷ (0 ∷ 0 ∷ 16 ∷ []) ∷ (9 ∷ 0 ∷ 8 ∷ []) ∷ (200 ∷ 200 ∷ 200 ∷ []) ∷ [])

abbrev bare : List ℕ
bare = sheet_of 1 1 [] ((1 ∷ []) ∷ [])

-- 0 a -> 2; 2 a -> none. Three of kind 0 and two of kind 2: kind 1 is out, and kind 0 has the greater norm. And one kind without lines, with an empty field: no kind is reached.
abbrev part_used : List ℕ
part_used = sheet_of 3 1 ((0 ∷ 0 ∷ 0 ∷ 0 ∷ 1 ∷ []) ∷ (2 ∷ 0 ∷ 0 ∷ 0 ∷ 0 ∷ []) ∷ []) ((3 ∷ 0 ∷ 2 ∷ []) ∷ [])

abbrev unreached : List ℕ
unreached = sheet_of 1 1 [] ((0 ∷ []) ∷ [])

abbrev three : List ℕ
three = 9 ∷ 9 ∷ 9 ∷ []

abbrev pub examples : List Example
examples =
    -- "with the smaller count of the last kind first, then of the one before it, and so on, from number 0": all fields of two tokens of three kinds; there is no seventh
    found chain 2 0 three (2 ∷ 0 ∷ 0 ∷ []) ∷ found chain 2 1 three (1 ∷ 1 ∷ 0 ∷ []) ∷ found chain 2 2 three (0 ∷ 2 ∷ 0 ∷ [])
    ∷ found chain 2 3 three (1 ∷ 0 ∷ 1 ∷ []) ∷ found chain 2 4 three (0 ∷ 1 ∷ 1 ∷ []) ∷ found chain 2 5 three (0 ∷ 0 ∷ 2 ∷ []) ∷ unfound chain 2 6 three 15 0
    -- the size and the number at that size
    ∷ numbered chain 0 1 1 ∷ numbered chain 1 1 2 ∷ numbered page 0 1 1 ∷ numbered page 1 2 0 ∷ numbered triple 0 6 14 ∷ numbered triple 1 16 152
    -- no token: one field; all of one kind: one field
    ∷ numbered single 2 0 0 ∷ found chain 0 0 three (0 ∷ 0 ∷ 0 ∷ []) ∷ unfound chain 0 1 three 15 0 ∷ numbered single 0 16 0 ∷ found single 16 0 (9 ∷ []) (16 ∷ [])
    -- "over the reached kinds alone, in number order, with k their number and every other count 0" (request 6 of document 02): all fields of two tokens of two out of three kinds; there is no fourth
    ∷ found part_used 2 0 three (2 ∷ 0 ∷ 0 ∷ []) ∷ found part_used 2 1 three (1 ∷ 0 ∷ 1 ∷ []) ∷ found part_used 2 2 three (0 ∷ 0 ∷ 2 ∷ []) ∷ unfound part_used 2 3 three 15 0
    ∷ numbered part_used 0 5 2
    -- where no kind is reached there is one field, without tokens
    ∷ numbered unreached 0 0 0 ∷ found unreached 0 0 (9 ∷ []) (0 ∷ []) ∷ unfound unreached 0 1 (9 ∷ []) 15 0 ∷ unfound unreached 1 0 (9 ∷ []) 15 0
    -- what stands past n counts keeps its value
    ∷ found chain 1 1 (9 ∷ 9 ∷ 9 ∷ 7 ∷ 8 ∷ []) (0 ∷ 1 ∷ 0 ∷ 7 ∷ 8 ∷ [])
    -- 11, 14, 15, 12, each at its limit and far past it, and the first of those that apply
    ∷ unnumbered single 3 11 0 ∷ unnumbered single 300 11 0 ∷ unnumbered single 1 14 0 ∷ unnumbered triple 2 14 0 ∷ unnumbered triple 3 14 0
    ∷ unfound single 17 0 (9 ∷ []) 14 0 ∷ unfound single 17 1 [] 14 0 ∷ unfound single 272 0 (9 ∷ []) 14 0
    ∷ unfound single 16 1 [] 15 0 ∷ unfound chain 2 70000 [] 15 0 ∷ unfound chain 2 5 (9 ∷ 9 ∷ []) 12 0
    -- the sheet's own refusals before them
    ∷ unnumbered bare 1 9 0 ∷ unfound bare 17 0 [] 9 0
    ∷ []

pub shelf_worked : map (λ x. run x.sheet x.call) examples ≡ map (λ x. x.outcome) examples
unfolding any all keep pick concat list_from below bit unit ℕ_discrete weigh reaches reached reached_kinds ready best sweeps card_norm kind_norm entry listed agree place_of shelf_number shelf_field fields_offset total_of counts line_of card_of field_of first_of header_checks line_checks norm_checks sheet_checks shelf_number_checks shelf_field_checks written shelf_number_of shelf_counts shelf_field_of
shelf_worked = refl
