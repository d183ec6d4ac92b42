-- Examples of frequencies (request 8 of document 02, which has none of its own), as one theorem over a list, closed by computation; and the entries nearest to the limit of 18, as another.
-- Each refuses a wrong definition.
use mathlib.Core.List.{List, [], ◌∷◌, ◌++◌, map}
use mathlib.Core.Path.{◌≡◌, refl}
use Prim.Native.Nat.{ℕ, ◌-◌}
use native.Mathlib.Decide.{ℕ_discrete}
use lib.ListN.{length, drop, replicate}
use Rattle.model.specs.Finite.{any, all, keep, concat, list_from, below, least_from}
use Rattle.model.specs.Field.{bit, unit, weigh}
use Rattle.model.specs.Card.{reaches, reached, reached_kinds, reached_lines}
use Rattle.model.specs.Norm.{ready, best, sweeps, card_norm, kind_norm, gain_of}
use Rattle.model.specs.Expansion.{simulates, expands}
use Rattle.model.specs.Stage.{lowering, equal_norm, equal_norm_and_total, falling, refined, stage_from, stage_in}
use Rattle.model.specs.Base.{parting_stage, rounds_for, rounds_at}
use Rattle.model.specs.Shelf.{entry, listed}
use Rattle.model.specs.Sheet.{fields_offset, total_of, counts, line_of, card_of, field_of}
use Rattle.model.specs.Refusal.{Finding, clear, refusal, first_of, header_checks, line_checks, norm_checks, sheet_checks, accept_checks, frequencies_checks}
use Rattle.model.specs.Answer.{refused, given, Lent, written, verdict_in, verdict_place, judged_at, frequencies, frequencies_of}
use Rattle.model.proofs.Worked.{sheet_of, page, codes_differ, growing}

pub record Example : Type 0 where
  pub sheet : List ℕ
  pub field : ℕ
  pub size : ℕ
  pub buffer : List ℕ
  pub outcome : Lent (Unit {0})

-- A field by its number, a size, and the buffer before; the buffer after: same, stage 0, stage 1, and so on.
abbrev counted : List ℕ → ℕ → ℕ → List ℕ → List ℕ → Example
counted s i t before after = record { sheet = s; field = i; size = t; buffer = before; outcome = record { answer = given tt; lent = after } }

-- A refusal, which leaves the buffer.
abbrev uncounted : List ℕ → ℕ → ℕ → List ℕ → ℕ → ℕ → Example
uncounted s i t buffer k p = record { sheet = s; field = i; size = t; buffer = buffer; outcome = record { answer = refused k p; lent = buffer } }

-- 0 a -> none; 1 b -> none; 2 a -> none; 2 b -> 2; 3 a -> 0. One kind 0; one of each other kind. Stage 1 parts kinds 0 and 1, stage 2 parts kinds 0 and 2, and kind 3 has norm 2; the
-- base settles at stage 2.
abbrev stages : List ℕ
stages =
    sheet_of 4 2
    ((0 ∷ 0 ∷ 0 ∷ 0 ∷ 0 ∷ 0 ∷ []) ∷ (1 ∷ 1 ∷ 0 ∷ 0 ∷ 0 ∷ 0 ∷ []) ∷ (2 ∷ 0 ∷ 0 ∷ 0 ∷ 0 ∷ 0 ∷ []) ∷ (2 ∷ 1 ∷ 0 ∷ 0 ∷ 1 ∷ 0 ∷ []) ∷ (3 ∷ 0 ∷ 1 ∷ 0 ∷ 0 ∷ 0 ∷ []) ∷ [])
    ((1 ∷ 0 ∷ 0 ∷ 0 ∷ []) ∷ (0 ∷ 1 ∷ 1 ∷ 1 ∷ []) ∷ [])

-- One kind, with 17 tokens, none and one.
abbrev single : List ℕ
single = sheet_of 1 1 ((0 ∷ 0 ∷ 0 ∷ []) ∷ []) ((17 ∷ []) ∷ (0 ∷ []) ∷ (1 ∷ []) ∷ [])

-- Seven kinds that each read a and leave nothing, and one field, with a token of each.
abbrev seven : List ℕ
seven = sheet_of 7 1 (map (λ k. k ∷ 0 ∷ replicate 7 0) (below 7)) (replicate 7 1 ∷ [])

-- 1 a -> none; 3 a -> 1; 0 a -> 0. One kind 3, two of kind 1: kinds 0 and 2 are out.
abbrev part_used : List ℕ
part_used =
    sheet_of 4 1 ((1 ∷ 0 ∷ 0 ∷ 0 ∷ 0 ∷ 0 ∷ []) ∷ (3 ∷ 0 ∷ 0 ∷ 1 ∷ 0 ∷ 0 ∷ []) ∷ (0 ∷ 0 ∷ 1 ∷ 0 ∷ 0 ∷ 0 ∷ []) ∷ [])
    ((0 ∷ 0 ∷ 0 ∷ 1 ∷ []) ∷ (0 ∷ 2 ∷ 0 ∷ 0 ∷ []) ∷ [])

-- One kind without lines: with a token of it, with an empty field, and with no field.
abbrev bare : List ℕ
bare = sheet_of 1 1 [] ((1 ∷ []) ∷ [])

abbrev unreached : List ℕ
unreached = sheet_of 1 1 [] ((0 ∷ []) ∷ [])

abbrev no_field : List ℕ
no_field = sheet_of 1 1 [] []

-- A buffer of so many counts.
abbrev nines : ℕ → List ℕ
nines n = replicate n 9

abbrev pub examples : List Example
examples =
    -- "same first", then the stages from 0 up, each shelved field in one place: on the sheet of 36 bytes, sizes 0 to 3; of two tokens, two of kind 0 are the same as one kind 1
    counted page 0 0 (nines 4) (0 ∷ 1 ∷ 0 ∷ 0 ∷ []) ∷ counted page 0 1 (nines 4) (1 ∷ 1 ∷ 0 ∷ 0 ∷ [])
    ∷ counted page 0 2 (nines 4) (1 ∷ 2 ∷ 0 ∷ 0 ∷ []) ∷ counted page 1 3 (nines 4) (0 ∷ 4 ∷ 0 ∷ 0 ∷ [])
    -- stage 1; stage 2, which is n: the last place
    ∷ counted codes_differ 0 2 (nines 4) (0 ∷ 2 ∷ 1 ∷ 0 ∷ []) ∷ counted growing 0 1 (nines 4) (1 ∷ 0 ∷ 0 ∷ 1 ∷ [])
    -- all of same, stage 0, stage 1 and stage 2, and none past the settled stage; no field of another size has the norm of the given one
    ∷ counted stages 0 0 (nines 6) (0 ∷ 1 ∷ 0 ∷ 0 ∷ 0 ∷ 0 ∷ []) ∷ counted stages 0 1 (nines 6) (1 ∷ 1 ∷ 1 ∷ 1 ∷ 0 ∷ 0 ∷ [])
    ∷ counted stages 0 2 (nines 6) (0 ∷ 10 ∷ 0 ∷ 0 ∷ 0 ∷ 0 ∷ []) ∷ counted stages 0 3 (nines 6) (0 ∷ 20 ∷ 0 ∷ 0 ∷ 0 ∷ 0 ∷ [])
    -- "the given field may be of any size": 17 tokens; none
    ∷ counted single 0 1 (nines 3) (0 ∷ 1 ∷ 0 ∷ []) ∷ counted single 0 16 (nines 3) (0 ∷ 1 ∷ 0 ∷ []) ∷ counted single 1 0 (nines 3) (1 ∷ 0 ∷ 0 ∷ []) ∷ counted single 1 16 (nines 3) (0 ∷ 1 ∷ 0 ∷ [])
    -- what stands past n + 2 counts keeps its value
    ∷ counted page 0 2 (9 ∷ 9 ∷ 9 ∷ 9 ∷ 7 ∷ 8 ∷ []) (1 ∷ 2 ∷ 0 ∷ 0 ∷ 7 ∷ 8 ∷ [])
    -- the fields of the reached kinds alone, two out of four, and n + 2 counts all the same
    ∷ counted part_used 0 0 (nines 6) (0 ∷ 1 ∷ 0 ∷ 0 ∷ 0 ∷ 0 ∷ []) ∷ counted part_used 1 1 (nines 6) (1 ∷ 1 ∷ 0 ∷ 0 ∷ 0 ∷ 0 ∷ []) ∷ counted part_used 0 2 (nines 6) (1 ∷ 2 ∷ 0 ∷ 0 ∷ 0 ∷ 0 ∷ [])
    -- where no kind is reached there is one field, without tokens
    ∷ counted unreached 0 0 (nines 3) (1 ∷ 0 ∷ 0 ∷ []) ∷ counted unreached 0 1 (nines 3) (0 ∷ 0 ∷ 0 ∷ []) ∷ counted unreached 0 16 (nines 3) (0 ∷ 0 ∷ 0 ∷ [])
    -- 11, 14, 18, 12, each at its limit, 11 and 14 far past it, and the first of those that apply; 14 looks at the size alone; seven kinds have 74,613 fields of 16 tokens, and more of 17
    ∷ uncounted page 2 17 [] 11 0 ∷ uncounted page 300 0 (nines 4) 11 0 ∷ uncounted no_field 0 0 (nines 3) 11 0 ∷ uncounted seven 1 16 [] 11 0
    ∷ uncounted single 2 17 [] 14 0 ∷ uncounted single 1 17 (nines 3) 14 0 ∷ uncounted single 2 272 (nines 3) 14 0 ∷ uncounted seven 0 17 [] 14 0
    ∷ uncounted seven 0 16 [] 18 0 ∷ uncounted seven 0 16 (nines 9) 18 0
    ∷ uncounted page 0 2 (nines 3) 12 0 ∷ uncounted page 0 2 (nines 2) 12 0 ∷ uncounted page 0 0 [] 12 0 ∷ uncounted part_used 0 2 (nines 5) 12 0 ∷ uncounted part_used 0 2 (nines 4) 12 0
    -- the sheet's own refusals before them
    ∷ uncounted [] 0 0 (nines 3) 1 0 ∷ uncounted bare 1 17 [] 9 0
    ∷ []

-- (`equal_norm_and_total`, `gain_of`, `rounds_for` and `rounds_at` are not used: with them a wrong definition that counts by the finer verdict, or by rounds, computes too.)
pub frequencies_worked : map (λ x. frequencies_of x.sheet x.field x.size x.buffer) examples ≡ map (λ x. x.outcome) examples
unfolding any all keep concat list_from below least_from bit unit ℕ_discrete weigh reaches reached reached_kinds reached_lines ready best sweeps card_norm kind_norm gain_of simulates expands lowering equal_norm equal_norm_and_total falling refined stage_from stage_in parting_stage rounds_for rounds_at entry listed fields_offset total_of counts line_of card_of field_of first_of header_checks line_checks norm_checks sheet_checks frequencies_checks written verdict_in verdict_place judged_at frequencies frequencies_of
frequencies_worked = refl

-- The number of kinds, of which so many are held by the one field, a size, the room lent, and what the checks come to.
pub record Limit : Type 0 where
  pub kinds : ℕ
  pub held : ℕ
  pub size : ℕ
  pub room : ℕ
  pub finding : Finding

abbrev limit : ℕ → ℕ → ℕ → ℕ → Finding → Limit
limit n k t room x = record { kinds = n; held = k; size = t; room = room; finding = x }

-- The checks of the call, past those of the sheet: kinds need no lines here.
abbrev checked : Limit → Finding
checked x =
    let s = sheet_of x.kinds 1 [] ((replicate x.held 1 ++ replicate (x.kinds - x.held) 0) ∷ []) in
    first_of (drop (length (accept_checks s)) (frequencies_checks s 0 x.size x.room))

abbrev pub limits : List Limit
limits =
    -- the entries next to 65,536: 54,264, which is taken, and 65,780, which is refused; no entry lies between them
    limit 7 7 15 9 clear ∷ limit 22 22 5 0 (refusal 18 0)
    -- 52,360, of the most kinds
    ∷ limit 32 32 4 34 clear
    -- the entry for the reached kinds alone: one out of seven
    ∷ limit 7 1 16 9 clear
    ∷ []

pub limits_worked : map checked limits ≡ map (λ x. x.finding) limits
unfolding any keep concat list_from below reaches reached reached_kinds entry fields_offset counts card_of field_of first_of header_checks line_checks norm_checks sheet_checks frequencies_checks
limits_worked = refl
