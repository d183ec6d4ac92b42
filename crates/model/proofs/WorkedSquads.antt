-- Examples of squads (request 5 of document 02, which has none of its own), as one theorem over a list, closed by computation. Each refuses a wrong definition.
use mathlib.Core.List.{List, [], ◌∷◌, map}
use mathlib.Core.Path.{◌≡◌, refl}
use Prim.Native.Nat.{ℕ}
use native.Mathlib.Decide.{ℕ_discrete}
use Rattle.model.specs.Finite.{any, all, keep, pick, concat, list_from, below, least_from, greatest_to}
use Rattle.model.specs.Field.{bit, unit, weigh}
use Rattle.model.specs.Card.{reaches, reached, reached_kinds, reached_lines}
use Rattle.model.specs.Norm.{ready, best, sweeps, card_norm, kind_norm}
use Rattle.model.specs.Expansion.{simulates, expands}
use Rattle.model.specs.Stage.{lowering, equal_norm, falling, refined, stage_from, stage_in}
use Rattle.model.specs.Base.{fields_of_norm, earlier, earlier_than, atom, row, passes, first_settled, form_at}
use Rattle.model.specs.Squads.{goes_in, times_in, remainder}
use Rattle.model.specs.Sheet.{fields_offset, total_of, counts, line_of, card_of, field_of}
use Rattle.model.specs.Refusal.{first_of, header_checks, line_checks, norm_checks, sheet_checks, squads_checks}
use Rattle.model.specs.Answer.{refused, given, Lent, written, prime_form_in, squad_count, remainder_form, squads_of}
use Rattle.model.proofs.Worked.{sheet_of, page}

pub record Example : Type 0 where
  pub sheet : List ℕ
  pub whole : ℕ
  pub squad : ℕ
  pub buffer : List ℕ
  pub outcome : Lent ℕ

-- A whole and a squad by their numbers, and the buffer before; the answer, and the buffer after.
abbrev counted : List ℕ → ℕ → ℕ → List ℕ → ℕ → List ℕ → Example
counted s i j before q after = record { sheet = s; whole = i; squad = j; buffer = before; outcome = record { answer = given q; lent = after } }

-- A refusal, which leaves the buffer.
abbrev uncounted : List ℕ → ℕ → ℕ → List ℕ → ℕ → ℕ → Example
uncounted s i j buffer k p = record { sheet = s; whole = i; squad = j; buffer = buffer; outcome = record { answer = refused k p; lent = buffer } }

-- 0 a -> none; 1 b -> none: two prime kinds. 5 and 2 tokens, 1 and 1, none, 0 and 1, 2 and 0.
abbrev pairs : List ℕ
pairs =
    sheet_of 2 2 ((0 ∷ 0 ∷ 0 ∷ 0 ∷ []) ∷ (1 ∷ 1 ∷ 0 ∷ 0 ∷ []) ∷ [])
    ((5 ∷ 2 ∷ []) ∷ (1 ∷ 1 ∷ []) ∷ (0 ∷ 0 ∷ []) ∷ (0 ∷ 1 ∷ []) ∷ (2 ∷ 0 ∷ []) ∷ [])

-- One kind without lines.
abbrev bare : List ℕ
bare = sheet_of 1 1 [] ((1 ∷ []) ∷ [])

abbrev two : List ℕ
two = 9 ∷ 9 ∷ []

abbrev pub examples : List Example
examples =
    -- "the same": by prime forms, and not by the counts as they stand on the sheet
    counted page 0 1 two 1 (0 ∷ 0 ∷ []) ∷ counted page 1 0 two 1 (0 ∷ 0 ∷ [])
    -- "the largest q", over every kind of the squad; the remainder of q squads; what stands past n counts keeps its value
    ∷ counted pairs 0 1 (9 ∷ 9 ∷ 7 ∷ 8 ∷ []) 2 (3 ∷ 0 ∷ 7 ∷ 8 ∷ []) ∷ counted pairs 0 3 two 2 (5 ∷ 0 ∷ []) ∷ counted pairs 0 4 two 2 (1 ∷ 2 ∷ [])
    -- no squad; as many as the whole has tokens; a whole that is empty
    ∷ counted pairs 3 1 two 0 (0 ∷ 1 ∷ []) ∷ counted pairs 3 3 two 1 (0 ∷ 0 ∷ []) ∷ counted pairs 2 1 two 0 (0 ∷ 0 ∷ [])
    -- 11 for each number, 17, 12, each at its limit and far past it, and the first of those that apply
    ∷ uncounted pairs 5 5 [] 11 0 ∷ uncounted pairs 300 0 two 11 0 ∷ uncounted pairs 2 5 [] 11 1 ∷ uncounted pairs 0 300 two 11 1
    ∷ uncounted pairs 0 2 [] 17 1 ∷ uncounted pairs 2 2 two 17 1 ∷ uncounted pairs 0 1 (9 ∷ []) 12 0
    -- the sheet's own refusals before them
    ∷ uncounted bare 1 1 [] 9 0
    ∷ []

pub squads_worked : map (λ x. squads_of x.sheet x.whole x.squad x.buffer) examples ≡ map (λ x. x.outcome) examples
unfolding any all keep pick concat list_from below least_from greatest_to bit unit ℕ_discrete weigh reaches reached reached_kinds reached_lines ready best sweeps card_norm kind_norm simulates expands lowering equal_norm falling refined stage_from stage_in fields_of_norm earlier earlier_than atom row passes first_settled form_at goes_in times_in remainder fields_offset total_of counts line_of card_of field_of first_of header_checks line_checks norm_checks sheet_checks squads_checks written prime_form_in squad_count remainder_form squads_of
squads_worked = refl
