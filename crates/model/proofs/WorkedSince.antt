-- Examples of the marks of the base (request 9 of document 02), as one theorem over a list, closed by computation. Each refuses a wrong definition. The sheet of 36 bytes, which has
-- `since 1` on both kinds, is in `worked` (proofs/Worked).
use mathlib.Core.List.{List, [], ◌∷◌, ◌++◌, map}
use mathlib.Core.Path.{◌≡◌, refl}
use Prim.Native.Nat.{ℕ}
use native.Mathlib.Decide.{ℕ_discrete}
use lib.ListN.{replicate}
use Rattle.model.specs.Finite.{any, all, keep, pick, concat, list_from, below, least_from}
use Rattle.model.specs.Field.{bit, unit, weigh, agree}
use Rattle.model.specs.Card.{reaches, reached, reached_kinds, reached_lines}
use Rattle.model.specs.Norm.{ready, best, sweeps, card_norm, kind_norm}
use Rattle.model.specs.Expansion.{simulates, expands}
use Rattle.model.specs.Sense.{plain, finer}
use Rattle.model.specs.Stage.{lowering, equal_norm, equal_norm_and_total, falling, refined, stage_from, stage_in}
use Rattle.model.specs.Base.{fields_of_norm, earlier, earlier_than, atom, row, passes, first_settled, since_at, stage_since_in, since_in}
use Rattle.model.specs.Sheet.{kind_count, fields_offset, total_of, counts, line_of, card_of, field_of}
use Rattle.model.specs.Refusal.{first_of, header_checks, line_checks, norm_checks, sheet_checks, settle_since_checks, row_checks}
use Rattle.model.specs.Page.{bytes, digits, number, newline, counts_of, words_of, kind_line, itself}
use Rattle.model.specs.Answer.{refused, given, LentMarks, written, table_of, marks_of, settle_since_of, row_of, row_check_of}
use Rattle.model.proofs.Worked.{sheet_of, page, chain, part_used}
use Rattle.model.proofs.WorkedFiner.{circling}

pub data Call : Type 0 where
  at_stage : ℕ → Call
  finer_marks : Call
  marks_only : Call
  settle : List ℕ → List ℕ → Call
  line : List ℕ → ℕ → Call

pub data Outcome : Type 0 where
  marks : List ℕ → Outcome
  settles : LentMarks ℕ → Outcome
  prints : List ℕ → Outcome

-- The marks of the base at a stage; those of the final base, in the finer sense and plainly; Settle with the marks, of a lent table and a lent buffer; the line of a kind on the page,
-- with the table of its sheet.
abbrev pub run : List ℕ → Call → Outcome
run s (at_stage q) = marks (list_from (stage_since_in plain (card_of s) q) 0 (kind_count s))
run s finer_marks = marks (list_from (since_in finer (card_of s)) 0 (kind_count s))
run s marks_only = marks (marks_of s)
run s (settle table buffer) = settles (settle_since_of s table buffer)
run s (line table k) = prints (kind_line s table (kind_norm (card_of s)) k)

pub record Example : Type 0 where
  pub sheet : List ℕ
  pub call : Call
  pub outcome : Outcome

abbrev example : List ℕ → Call → Outcome → Example
example s q r = record { sheet = s; call = q; outcome = r }

-- The table and the marks before; the stage, the table and the marks after.
abbrev marked : List ℕ → List ℕ → List ℕ → ℕ → List ℕ → List ℕ → Example
marked s t b stage t' b' = example s (settle t b) (settles (record { answer = given stage; table = t'; marks = b' }))

-- A refusal, which leaves both.
abbrev unmarked : List ℕ → List ℕ → List ℕ → ℕ → ℕ → Example
unmarked s t b k p = example s (settle t b) (settles (record { answer = refused k p; table = t; marks = b }))

-- 0 a -> none; 0 b -> 0; 1 a -> none; 2 a -> none; 2 b -> 1; 3 a -> none. At stage 1 all are kind 0. At stage 2 kind 1 is prime, kind 2 is still kind 0, and kind 3 is kind 1. At stage 3 kind 2 is prime.
abbrev waiting : List ℕ
waiting =
    sheet_of 4 2
    ((0 ∷ 0 ∷ 0 ∷ 0 ∷ 0 ∷ 0 ∷ []) ∷ (0 ∷ 1 ∷ 1 ∷ 0 ∷ 0 ∷ 0 ∷ []) ∷ (1 ∷ 0 ∷ 0 ∷ 0 ∷ 0 ∷ 0 ∷ []) ∷ (2 ∷ 0 ∷ 0 ∷ 0 ∷ 0 ∷ 0 ∷ []) ∷ (2 ∷ 1 ∷ 0 ∷ 1 ∷ 0 ∷ 0 ∷ []) ∷ (3 ∷ 0 ∷ 0 ∷ 0 ∷ 0 ∷ 0 ∷ []) ∷ [])
    ((1 ∷ 0 ∷ 1 ∷ 1 ∷ []) ∷ [])

-- 0 a -> 2; 1 a -> none; 1 b -> 1; 2 a -> none. At stage 1 kind 2 is kind 1, and kind 0 two of kind 1; at stage 2 kind 2 is prime, and kind 0 two of kind 2.
abbrev moving : List ℕ
moving =
    sheet_of 3 2 ((0 ∷ 0 ∷ 0 ∷ 0 ∷ 1 ∷ []) ∷ (1 ∷ 0 ∷ 0 ∷ 0 ∷ 0 ∷ []) ∷ (1 ∷ 1 ∷ 0 ∷ 1 ∷ 0 ∷ []) ∷ (2 ∷ 0 ∷ 0 ∷ 0 ∷ 0 ∷ []) ∷ []) ((1 ∷ 1 ∷ 0 ∷ []) ∷ [])

-- 2 a -> none; 2 b -> 2; 3 a -> none. At stage 1 kind 3 is kind 2, at stage 2 it is prime; kinds 0 and 1 are out.
abbrev behind : List ℕ
behind = sheet_of 4 2 ((2 ∷ 0 ∷ 0 ∷ 0 ∷ 0 ∷ 0 ∷ []) ∷ (2 ∷ 1 ∷ 0 ∷ 0 ∷ 1 ∷ 0 ∷ []) ∷ (3 ∷ 0 ∷ 0 ∷ 0 ∷ 0 ∷ 0 ∷ []) ∷ []) ((0 ∷ 0 ∷ 1 ∷ 1 ∷ []) ∷ [])

-- 0 a -> 1; 0 b -> 0; 1 a -> none. At stage 1 kind 0 is two of kind 1, at stage 2 it is prime; in the finer sense it is prime at stage 1.
abbrev step : List ℕ
step = sheet_of 2 2 ((0 ∷ 0 ∷ 0 ∷ 1 ∷ []) ∷ (0 ∷ 1 ∷ 1 ∷ 0 ∷ []) ∷ (1 ∷ 0 ∷ 0 ∷ 0 ∷ []) ∷ []) ((1 ∷ 0 ∷ []) ∷ [])

-- 0 a -> none; 1 a -> 1; 1 a -> 0; 2 a -> 0. Kind 2 is two of kind 0 at both stages; at stage 1 kind 1 is too, at stage 2 it is prime. In the finer sense kind 1 is prime at both stages; at stage 1
-- kind 2 is kind 1, at stage 2 it is prime.
abbrev later : List ℕ
later =
    sheet_of 3 1 ((0 ∷ 0 ∷ 0 ∷ 0 ∷ 0 ∷ []) ∷ (1 ∷ 0 ∷ 0 ∷ 1 ∷ 0 ∷ []) ∷ (1 ∷ 0 ∷ 1 ∷ 0 ∷ 0 ∷ []) ∷ (2 ∷ 0 ∷ 1 ∷ 0 ∷ 0 ∷ []) ∷ []) ((1 ∷ 1 ∷ 1 ∷ []) ∷ [])

-- 0 a -> none; 0 b -> 0; 1 a -> none; 2 a -> none. One kind 0, one kind 2: kind 1 is out, and can be cleared.
abbrev between : List ℕ
between =
    sheet_of 3 2 ((0 ∷ 0 ∷ 0 ∷ 0 ∷ 0 ∷ []) ∷ (0 ∷ 1 ∷ 1 ∷ 0 ∷ 0 ∷ []) ∷ (1 ∷ 0 ∷ 0 ∷ 0 ∷ 0 ∷ []) ∷ (2 ∷ 0 ∷ 0 ∷ 0 ∷ 0 ∷ []) ∷ []) ((1 ∷ 0 ∷ 1 ∷ []) ∷ [])

-- One kind without lines: with a token of it, and with no field.
abbrev bare : List ℕ
bare = sheet_of 1 1 [] ((1 ∷ []) ∷ [])

abbrev unreached : List ℕ
unreached = sheet_of 1 1 [] []

-- A buffer of so many counts.
abbrev nines : ℕ → List ℕ
nines n = replicate n 9

abbrev pub examples : List Example
examples =
    -- rows that become final at different stages, kind 2's after a change at each
    example chain (at_stage 3) (marks (1 ∷ 2 ∷ 3 ∷ []))
    -- a row that is the same at stages 1 and 2, and final at stage 3; a kind that is never an atom, and whose row changes before the settled stage
    ∷ example waiting (at_stage 3) (marks (1 ∷ 2 ∷ 3 ∷ 2 ∷ []))
    -- a row that changes in its counts of kinds of higher number alone
    ∷ example moving (line (0 ∷ 0 ∷ 2 ∷ 0 ∷ 1 ∷ 0 ∷ 0 ∷ 0 ∷ 1 ∷ []) 0) (prints (bytes "kind 0 norm 2 since 2 = 0 0 2\n"))
    -- a row that changes in its counts of kinds 2 and 3 alone, where two kinds are reached
    ∷ example behind (at_stage 2) (marks (0 ∷ 0 ∷ 1 ∷ 2 ∷ []))
    -- the finer base, which settles at stage 2, where the plain one settles at stage 1
    ∷ example circling finer_marks (marks (1 ∷ 1 ∷ 2 ∷ []))
    -- "A kind that is out has no such mark"
    ∷ example between marks_only (marks (1 ∷ 0 ∷ 2 ∷ [])) ∷ example between (line (1 ∷ 0 ∷ 0 ∷ 0 ∷ 0 ∷ 0 ∷ 0 ∷ 0 ∷ 1 ∷ []) 1) (prints (bytes "kind 1 out\n"))
    -- a kind that is not prime, whose mark is below the settled stage
    ∷ example later (line (1 ∷ 0 ∷ 0 ∷ 0 ∷ 1 ∷ 0 ∷ 2 ∷ 0 ∷ 0 ∷ []) 2) (prints (bytes "kind 2 norm 2 since 1 = 2 0 0\n"))
    -- Settle with the marks: in kind number; what stands past n × n counts, and past n marks, keeps its value and its place
    ∷ marked step (nines 4) (nines 2) 2 (1 ∷ 0 ∷ 0 ∷ 1 ∷ []) (2 ∷ 1 ∷ [])
    ∷ marked page (nines 4 ++ (7 ∷ 8 ∷ [])) (nines 2 ++ (5 ∷ 6 ∷ [])) 1 (1 ∷ 0 ∷ 2 ∷ 0 ∷ 7 ∷ 8 ∷ []) (1 ∷ 1 ∷ 5 ∷ 6 ∷ [])
    ∷ marked part_used (nines 4) (nines 2) 1 (1 ∷ 0 ∷ 0 ∷ 0 ∷ []) (1 ∷ 0 ∷ [])
    -- no kind is reached: stage 1, a row of zeros, no mark
    ∷ marked unreached (9 ∷ []) (9 ∷ []) 1 (0 ∷ []) (0 ∷ [])
    -- 12: the table short, by one and by more, though there is room for the marks; the marks short, though there is room for the table; both; nothing lent changes
    ∷ unmarked page (nines 3) (nines 2) 12 0 ∷ unmarked page (nines 2) (nines 4) 12 0 ∷ unmarked page (nines 4) (nines 1) 12 0 ∷ unmarked page (nines 4) [] 12 0 ∷ unmarked page [] [] 12 0
    -- there must be room for all kinds, also for those that are out
    ∷ unmarked part_used (nines 3) (nines 2) 12 0 ∷ unmarked part_used (nines 4) (nines 1) 12 0
    -- the sheet's own refusals before it
    ∷ unmarked [] [] [] 1 0 ∷ unmarked bare [] [] 9 0 ∷ unmarked bare (9 ∷ []) (9 ∷ []) 9 0
    ∷ []

pub since_worked : map (λ x. run x.sheet x.call) examples ≡ map (λ x. x.outcome) examples
unfolding any all keep pick concat list_from below least_from bit unit ℕ_discrete weigh agree reaches reached reached_kinds reached_lines ready best sweeps card_norm kind_norm simulates expands lowering equal_norm equal_norm_and_total falling refined stage_from stage_in fields_of_norm earlier earlier_than atom row passes first_settled since_at fields_offset total_of counts line_of card_of field_of first_of header_checks line_checks norm_checks sheet_checks settle_since_checks row_checks bytes digits number newline counts_of words_of kind_line itself written table_of marks_of settle_since_of row_of row_check_of
since_worked = refl
