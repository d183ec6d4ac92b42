-- The calls from C, each from the model's own answer; the layout of each answer array.
use Rattle.std.specs.Prelude.{true, false, List, [], ◌∷◌, ℕ, ltb, length, take}
use Rattle.model.specs.Sheet.{kind_count, code_count, line_count, field_count}
use Rattle.model.specs.Refusal.{Finding, clear, refusal, first_of, sheet_checks, accept_checks, squads_checks}
use Rattle.model.specs.Walk.{WalkAnswer, apart, together, spent}
use Rattle.model.specs.Answer.{Answer, refused, given, Lent, Session, Verdict, written, row_check_of, walk_of, settle_of, settle_since_of, compare_of, finer_compare_of, form_of, finer_form_of, shelf_number_of, shelf_field_of, squads_of, frequencies_of}
use Rattle.page.specs.Writing.{write_page_of}
use Rattle.arrays.specs.Reply.{code_of, Reply, reply_of, laid_out}
use Rattle.arrays.specs.Session.{desks, short_code_by}
use Rattle.arrays.specs.Values.{row_values, verdict_values, shelved_values}

-- The values, unless a check found a refusal.
abbrev pub found_or : List ℕ → Finding → Answer (List ℕ)
found_or values clear = given values
found_or values (refusal number place) = refused number place

-- Row's check.
unfoldable pub row_call : ℕ → ℕ → List ℕ → List ℕ → Reply (Unit {0})
row_call n k table array = reply_of (found_or (row_values n k) (row_check_of n k table)) tt tt array

-- Numbers: the sheet's numbers of kinds, codes, lines and fields, unless one of the checks 1 to 8 applies.
abbrev pub number_values : List ℕ → List ℕ
number_values s = kind_count s ∷ code_count s ∷ line_count s ∷ field_count s ∷ []

unfoldable pub numbers_call : List ℕ → List ℕ → Reply (Unit {0})
numbers_call s array = reply_of (found_or (number_values s) (first_of (sheet_checks s))) tt tt array

-- Settle: the settled stage. The table is lent.
abbrev pub stage_values : ℕ → List ℕ
stage_values stage = stage ∷ []

unfoldable pub settle_call : List ℕ → List ℕ → List ℕ → Reply (List ℕ)
settle_call s table array = let x = settle_of s table in reply_of (laid_out stage_values x.answer) table x.lent array

-- Settle with the marks (request 9 of document 02): the settled stage. The table and the buffer for the marks are lent.
pub record TableAndMarks : Type 0 where
  pub table : List ℕ
  pub marks : List ℕ

unfoldable pub settle_since_call : List ℕ → List ℕ → List ℕ → List ℕ → Reply TableAndMarks
settle_since_call s table marks array =
    let x = settle_since_of s table marks in
    reply_of (laid_out stage_values x.answer) (record { table = table; marks = marks }) (record { table = x.table; marks = x.marks }) array

-- What Settle returns, with the marks or without, where the answer array has no room: the sheet's own refusal, else that of a short buffer.
abbrev pub short_code : List ℕ → ℕ
short_code s = short_code_by (first_of (accept_checks s))

-- Walk: 0 together, 1 apart, 2 spent; the rounds that part the pair, 0 where none did; the pairs drawn from the desk's allowance.
abbrev pub walk_values : ℕ → WalkAnswer → List ℕ
walk_values drawn together = 0 ∷ 0 ∷ drawn ∷ []
walk_values drawn (apart rounds) = 1 ∷ rounds ∷ drawn ∷ []
walk_values drawn spent = 2 ∷ 0 ∷ drawn ∷ []

-- The session is lent as an array: its first eight elements are what the desks have left.
abbrev pub lent_session : List ℕ → Session
lent_session session = record { left = take desks session }

-- An array with no room for eight desks is refused as "buffer or table too short", after the other checks.
unfoldable pub of_desks : List ℕ → Answer (List ℕ) → Answer (List ℕ)
of_desks session (refused number place) = refused number place
of_desks session (given values) = elim (ltb (length session) desks) [ true ↦ refused 12 0 | false ↦ given values ]

-- Walk, on a session that is lent as an array: what the desks have left stands there afterwards.
unfoldable pub walk_call : List ℕ → ℕ → ℕ → ℕ → ℕ → List ℕ → List ℕ → Reply (List ℕ)
walk_call s i j limit d session array =
    let w = walk_of s i j limit d (lent_session session) in
    reply_of (of_desks session (laid_out (walk_values w.drawn) w.answer)) session (written w.after.left session) array

-- Compare and finer Compare: the verdict.
unfoldable pub verdict_call : Answer Verdict → List ℕ → Reply (Unit {0})
verdict_call answer array = reply_of (laid_out verdict_values answer) tt tt array

abbrev pub compare_call : List ℕ → ℕ → ℕ → List ℕ → Reply (Unit {0})
compare_call s i j array = verdict_call (compare_of s i j) array

abbrev pub finer_compare_call : List ℕ → ℕ → ℕ → List ℕ → Reply (Unit {0})
finer_compare_call s i j array = verdict_call (finer_compare_of s i j) array

-- Prime form and finer Prime form: no values, and so no answer array. The buffer is lent.
abbrev pub no_values : Unit {0} → List ℕ
no_values _ = []

unfoldable pub writing_call : List ℕ → Lent (Unit {0}) → Reply (List ℕ)
writing_call buffer x = reply_of (laid_out no_values x.answer) buffer x.lent []

abbrev pub form_call : List ℕ → ℕ → List ℕ → Reply (List ℕ)
form_call s i buffer = writing_call buffer (form_of s i buffer)

abbrev pub finer_form_call : List ℕ → ℕ → List ℕ → Reply (List ℕ)
finer_form_call s i buffer = writing_call buffer (finer_form_of s i buffer)

-- What a call without values returns: 0, or the refusal's number.
abbrev pub written_code : Answer (Unit {0}) → ℕ
written_code (given _) = 0
written_code (refused number place) = code_of number place

-- Shelf number.
unfoldable pub shelf_number_call : List ℕ → ℕ → List ℕ → Reply (Unit {0})
shelf_number_call s i array = reply_of (laid_out shelved_values (shelf_number_of s i)) tt tt array

-- Shelf field, of a size and a number: no values, and so no answer array. The buffer is lent.
abbrev pub shelf_field_call : List ℕ → ℕ → ℕ → List ℕ → Reply (List ℕ)
shelf_field_call s t x buffer = writing_call buffer (shelf_field_of s t x buffer)

-- Squads: how often the squad goes into the whole. The buffer for the remainder is lent.
abbrev pub count_values : ℕ → List ℕ
count_values count = count ∷ []

unfoldable pub squads_call : List ℕ → ℕ → ℕ → List ℕ → List ℕ → Reply (List ℕ)
squads_call s i j buffer array = let x = squads_of s i j buffer in reply_of (laid_out count_values x.answer) buffer x.lent array

-- What Squads returns where the answer array has no room: by its checks of a buffer that has none, which find a refusal of the other checks, or else that of a short buffer.
abbrev pub short_squads : List ℕ → ℕ → ℕ → ℕ
short_squads s i j = short_code_by (first_of (squads_checks s i j 0))

-- Frequencies, of a field and a size: no values, and so no answer array. The buffer is lent.
abbrev pub frequencies_call : List ℕ → ℕ → ℕ → List ℕ → Reply (List ℕ)
frequencies_call s i t buffer = writing_call buffer (frequencies_of s i t buffer)

-- The page: its length. The buffer that it is written to is lent.
abbrev pub length_values : ℕ → List ℕ
length_values length = length ∷ []

unfoldable pub page_call : List ℕ → List ℕ → List ℕ → Reply (List ℕ)
page_call s buffer array = let x = write_page_of s buffer in reply_of (laid_out length_values x.answer) buffer x.lent array
