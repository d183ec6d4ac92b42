-- Examples of the finer comparison and its prime forms (request 7 of document 02, which has none of its own), as one theorem over a list, closed by computation. Each refuses a wrong
-- definition. Beside them stand answers of Compare and Prime form on the same fields, where these differ.
use mathlib.Core.List.{List, [], ◌∷◌, ◌++◌, map}
use mathlib.Core.Path.{◌≡◌, refl}
use Prim.Native.Nat.{ℕ}
use native.Mathlib.Decide.{ℕ_discrete}
use Rattle.model.specs.Finite.{any, all, keep, pick, concat, list_from, below, least_from}
use Rattle.model.specs.Field.{bit, unit, weigh}
use Rattle.model.specs.Card.{reaches, reached, reached_kinds, reached_lines}
use Rattle.model.specs.Norm.{ready, best, sweeps, card_norm, kind_norm, gain_of}
use Rattle.model.specs.Expansion.{simulates, expands}
use Rattle.model.specs.Stage.{lowering, equal_norm, equal_norm_and_total, falling, refined, stage_from, stage_in}
use Rattle.model.specs.Base.{fields_of_norm, earlier, earlier_than, atom, row, passes, first_settled, form_at, parting_stage, rounds_for, rounds_at}
use Rattle.model.specs.Sheet.{fields_offset, total_of, counts, line_of, card_of, field_of}
use Rattle.model.specs.Refusal.{first_of, header_checks, line_checks, norm_checks, sheet_checks, compare_checks, form_checks}
use Rattle.model.specs.Answer.{Answer, refused, given, Lent, Verdict, same, different, written, verdict_in, compare_in, compare_of, finer_compare_of, prime_form_in, forming_in, form_of, finer_form_of}
use Rattle.model.specs.Plain.{two_bytes, header_bytes}
use Rattle.model.proofs.Worked.{sheet_of, page, chain, part_used, out_grows}

pub data Call : Type 0 where
  compare : ℕ → ℕ → Call
  finer_compare : ℕ → ℕ → Call
  form : ℕ → List ℕ → Call
  finer_form : ℕ → List ℕ → Call

pub data Outcome : Type 0 where
  compares : Answer Verdict → Outcome
  forms : Lent (Unit {0}) → Outcome

abbrev pub run : List ℕ → Call → Outcome
run s (compare i j) = compares (compare_of s i j)
run s (finer_compare i j) = compares (finer_compare_of s i j)
run s (form i buffer) = forms (form_of s i buffer)
run s (finer_form i buffer) = forms (finer_form_of s i buffer)

pub record Example : Type 0 where
  pub sheet : List ℕ
  pub call : Call
  pub outcome : Outcome

-- The verdict on two fields by their numbers: of Compare, and of finer Compare.
abbrev plainly : List ℕ → ℕ → ℕ → Verdict → Example
plainly s i j v = record { sheet = s; call = compare i j; outcome = compares (given v) }

abbrev finely : List ℕ → ℕ → ℕ → Verdict → Example
finely s i j v = record { sheet = s; call = finer_compare i j; outcome = compares (given v) }

-- A refusal of finer Compare.
abbrev uncompared : List ℕ → ℕ → ℕ → ℕ → ℕ → Example
uncompared s i j k p = record { sheet = s; call = finer_compare i j; outcome = compares (refused k p) }

-- A field by its number, and the buffer before and after: of Prime form, and of finer Prime form.
abbrev plainly_formed : List ℕ → ℕ → List ℕ → List ℕ → Example
plainly_formed s i before after = record { sheet = s; call = form i before; outcome = forms (record { answer = given tt; lent = after }) }

abbrev finely_formed : List ℕ → ℕ → List ℕ → List ℕ → Example
finely_formed s i before after = record { sheet = s; call = finer_form i before; outcome = forms (record { answer = given tt; lent = after }) }

-- A refusal of finer Prime form, which leaves the buffer.
abbrev unformed : List ℕ → ℕ → List ℕ → ℕ → ℕ → Example
unformed s i buffer k p = record { sheet = s; call = finer_form i buffer; outcome = forms (record { answer = refused k p; lent = buffer }) }

-- The page's card, with one kind 1 and one kind 0.
abbrev page_singles : List ℕ
page_singles = sheet_of 2 1 ((0 ∷ 0 ∷ 0 ∷ 0 ∷ []) ∷ (1 ∷ 0 ∷ 1 ∷ 0 ∷ []) ∷ []) ((0 ∷ 1 ∷ []) ∷ (1 ∷ 0 ∷ []) ∷ [])

-- 0 a -> none; 1 a -> 0; 2 a -> 1; 3 a -> 0 0. One kind 2, one kind 3: norm 3 and one token each, but one token against two after a read.
abbrev later : List ℕ
later =
    sheet_of 4 1 ((0 ∷ 0 ∷ 0 ∷ 0 ∷ 0 ∷ 0 ∷ []) ∷ (1 ∷ 0 ∷ 1 ∷ 0 ∷ 0 ∷ 0 ∷ []) ∷ (2 ∷ 0 ∷ 0 ∷ 1 ∷ 0 ∷ 0 ∷ []) ∷ (3 ∷ 0 ∷ 2 ∷ 0 ∷ 0 ∷ 0 ∷ []) ∷ [])
    ((0 ∷ 0 ∷ 1 ∷ 0 ∷ []) ∷ (0 ∷ 0 ∷ 0 ∷ 1 ∷ []) ∷ [])

-- 0 a -> none; 0 b -> 0 0; 1 a -> none; 1 b -> 2; 2 a -> 0; 2 b -> 0 2. Kind 0, kind 1. A read of b tells kinds 0 and 1 apart, by the totals alone.
abbrev growth : List ℕ
growth =
    sheet_of 3 2
    ((0 ∷ 0 ∷ 0 ∷ 0 ∷ 0 ∷ []) ∷ (0 ∷ 1 ∷ 2 ∷ 0 ∷ 0 ∷ []) ∷ (1 ∷ 0 ∷ 0 ∷ 0 ∷ 0 ∷ []) ∷ (1 ∷ 1 ∷ 0 ∷ 0 ∷ 1 ∷ []) ∷ (2 ∷ 0 ∷ 1 ∷ 0 ∷ 0 ∷ []) ∷ (2 ∷ 1 ∷ 1 ∷ 0 ∷ 1 ∷ []) ∷ [])
    ((1 ∷ 0 ∷ 0 ∷ []) ∷ (0 ∷ 1 ∷ 0 ∷ []) ∷ [])

-- 0 a -> none; 1 a -> none. Kind 0 with kind 1, two of kind 1, three of kind 1.
abbrev twins : List ℕ
twins = sheet_of 2 1 ((0 ∷ 0 ∷ 0 ∷ 0 ∷ []) ∷ (1 ∷ 0 ∷ 0 ∷ 0 ∷ []) ∷ []) ((1 ∷ 1 ∷ []) ∷ (0 ∷ 2 ∷ []) ∷ (0 ∷ 3 ∷ []) ∷ [])

-- 0 a -> none; 1 a -> none; 2 a -> 0; 3 a -> 1. One kind 2, one kind 3.
abbrev alike : List ℕ
alike =
    sheet_of 4 1 ((0 ∷ 0 ∷ 0 ∷ 0 ∷ 0 ∷ 0 ∷ []) ∷ (1 ∷ 0 ∷ 0 ∷ 0 ∷ 0 ∷ 0 ∷ []) ∷ (2 ∷ 0 ∷ 1 ∷ 0 ∷ 0 ∷ 0 ∷ []) ∷ (3 ∷ 0 ∷ 0 ∷ 1 ∷ 0 ∷ 0 ∷ []) ∷ [])
    ((0 ∷ 0 ∷ 1 ∷ 0 ∷ []) ∷ (0 ∷ 0 ∷ 0 ∷ 1 ∷ []) ∷ [])

-- 0 a -> none; 0 b -> 0; 1 a -> 0; 1 b -> 1; 2 a -> 0; 2 b -> 0 0. One kind 1, one kind 2. A read of b, which lowers no norm, tells them apart, by the totals alone.
abbrev pub circling : List ℕ
circling =
    sheet_of 3 2
    ((0 ∷ 0 ∷ 0 ∷ 0 ∷ 0 ∷ []) ∷ (0 ∷ 1 ∷ 1 ∷ 0 ∷ 0 ∷ []) ∷ (1 ∷ 0 ∷ 1 ∷ 0 ∷ 0 ∷ []) ∷ (1 ∷ 1 ∷ 0 ∷ 1 ∷ 0 ∷ []) ∷ (2 ∷ 0 ∷ 1 ∷ 0 ∷ 0 ∷ []) ∷ (2 ∷ 1 ∷ 2 ∷ 0 ∷ 0 ∷ []) ∷ [])
    ((0 ∷ 1 ∷ 0 ∷ []) ∷ (0 ∷ 0 ∷ 1 ∷ []) ∷ [])

-- A gap: 0 a -> none; 4 a -> none; kinds 1 to 3 are out. Kind 0 with kind 4, two of kind 4.
abbrev gap : List ℕ
gap =
    sheet_of 5 1 ((0 ∷ 0 ∷ 0 ∷ 0 ∷ 0 ∷ 0 ∷ 0 ∷ []) ∷ (4 ∷ 0 ∷ 0 ∷ 0 ∷ 0 ∷ 0 ∷ 0 ∷ []) ∷ []) ((1 ∷ 0 ∷ 0 ∷ 0 ∷ 1 ∷ []) ∷ (0 ∷ 0 ∷ 0 ∷ 0 ∷ 2 ∷ []) ∷ [])

-- 0 a -> none; 1 a -> none; 2 b -> 0 1. 65,535 of kind 0 with 32,769 of kind 1, and 32,768 of kind 2: of norm 98,304 each, with 98,304 and 32,768 tokens, which differ by 65,536.
abbrev many : List ℕ
many =
    header_bytes 3 2 3 2 ++ (0 ∷ 0 ∷ 0 ∷ 0 ∷ 0 ∷ 1 ∷ 0 ∷ 0 ∷ 0 ∷ 0 ∷ 2 ∷ 1 ∷ 1 ∷ 1 ∷ 0 ∷ [])
    ++ concat (map two_bytes (65535 ∷ 32769 ∷ 0 ∷ 0 ∷ 0 ∷ 32768 ∷ []))

-- One kind without lines: with a token of it, and with two empty fields.
abbrev bare : List ℕ
bare = sheet_of 1 1 [] ((1 ∷ []) ∷ [])

abbrev empty : List ℕ
empty = sheet_of 1 1 [] ((0 ∷ []) ∷ (0 ∷ []) ∷ [])

abbrev two : List ℕ
two = 9 ∷ 9 ∷ []

abbrev three : List ℕ
three = 9 ∷ 9 ∷ 9 ∷ []

abbrev four : List ℕ
four = 9 ∷ 9 ∷ 9 ∷ 9 ∷ []

abbrev pub examples : List Example
examples =
    -- a kind that is the same as two of another is not finer the same: equal norms, unequal totals, so stage 0; the rounds are N + 1, though the challenger needs none
    plainly page 0 1 same ∷ finely page 0 1 (different 0 3)
    -- there it is finer prime, and its form is itself; a buffer longer than n keeps what stands past it
    ∷ plainly_formed page 0 (9 ∷ 9 ∷ 7 ∷ []) (2 ∷ 0 ∷ 7 ∷ []) ∷ finely_formed page 0 (9 ∷ 9 ∷ 7 ∷ []) (0 ∷ 1 ∷ 7 ∷ []) ∷ finely_formed page 1 two (2 ∷ 0 ∷ [])
    -- equal totals, unequal norms: stage 0 too
    ∷ finely page_singles 0 1 (different 0 2)
    -- totals that differ after a read that lowers the norm: stage 1
    ∷ plainly_formed later 0 four (3 ∷ 0 ∷ 0 ∷ 0 ∷ []) ∷ finely later 0 1 (different 1 4) ∷ plainly_formed later 1 four (3 ∷ 0 ∷ 0 ∷ 0 ∷ []) ∷ finely_formed later 1 four (0 ∷ 0 ∷ 0 ∷ 1 ∷ [])
    -- totals that differ after another read: stage 2, with g 1; and with g 0, where the finer base settles after the plain one
    ∷ plainly growth 0 1 same ∷ finely growth 0 1 (different 2 4)
    ∷ finely circling 0 1 (different 2 4) ∷ plainly_formed circling 1 three (2 ∷ 0 ∷ 0 ∷ []) ∷ finely_formed circling 1 three (0 ∷ 0 ∷ 1 ∷ [])
    -- finer the same, of unlike fields, and their forms; different by the norm
    ∷ finely twins 0 1 same ∷ finely_formed twins 0 two (2 ∷ 0 ∷ []) ∷ finely_formed twins 1 two (2 ∷ 0 ∷ []) ∷ finely twins 0 2 (different 0 3)
    ∷ finely alike 0 1 same ∷ plainly_formed alike 1 four (2 ∷ 0 ∷ 0 ∷ 0 ∷ []) ∷ finely_formed alike 1 four (0 ∷ 0 ∷ 1 ∷ 0 ∷ [])
    -- where no totals differ, as in the plain sense
    ∷ finely chain 0 1 (different 3 4)
    -- over the reached kinds alone: a kind that is out has no norm, no place in the order and no part in g; the total is over all kinds, as there may be a gap
    ∷ finely part_used 0 1 (different 0 1) ∷ finely_formed part_used 0 two (1 ∷ 0 ∷ []) ∷ finely out_grows 0 1 (different 3 4)
    ∷ finely gap 0 1 same ∷ finely_formed gap 1 (9 ∷ 9 ∷ 9 ∷ 9 ∷ 9 ∷ []) (2 ∷ 0 ∷ 0 ∷ 0 ∷ 0 ∷ [])
    -- no kind reached: the empty fields are the same
    ∷ finely empty 0 1 same ∷ finely_formed empty 1 (9 ∷ []) (0 ∷ [])
    -- a total is of no fixed width
    ∷ finely many 0 1 (different 0 98305)
    -- refused as Compare and Prime form are: 11 for each number, at its limit and far past it, 12, and the first of those that apply; nothing lent changes
    ∷ uncompared chain 2 2 11 0 ∷ uncompared chain 300 0 11 0 ∷ uncompared chain 1 2 11 1 ∷ uncompared chain 0 300 11 1
    ∷ unformed chain 2 [] 11 0 ∷ unformed chain 300 (5 ∷ 5 ∷ 5 ∷ []) 11 0 ∷ unformed chain 1 (5 ∷ 5 ∷ []) 12 0
    -- the sheet's own refusals before them
    ∷ uncompared [] 0 0 1 0 ∷ uncompared bare 1 1 9 0 ∷ unformed [] 0 (5 ∷ []) 1 0 ∷ unformed bare 1 [] 9 0
    ∷ []

pub finer_worked : map (λ x. run x.sheet x.call) examples ≡ map (λ x. x.outcome) examples
unfolding any all keep pick concat list_from below least_from bit unit ℕ_discrete weigh reaches reached reached_kinds reached_lines ready best sweeps card_norm kind_norm gain_of simulates expands lowering equal_norm equal_norm_and_total falling refined stage_from stage_in fields_of_norm earlier earlier_than atom row passes first_settled form_at parting_stage rounds_for rounds_at fields_offset total_of counts line_of card_of field_of first_of header_checks line_checks norm_checks sheet_checks compare_checks form_checks written verdict_in compare_in prime_form_in forming_in
finer_worked = refl
