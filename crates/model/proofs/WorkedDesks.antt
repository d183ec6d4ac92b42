-- Examples of desks and of days (request 4 of document 02, which has none of its own), closed by computation. Each refuses a wrong definition.
use mathlib.Core.List.{List, [], ◌∷◌, map}
use mathlib.Core.Path.{◌≡◌, refl}
use Prim.Native.Nat.{ℕ}
use native.Mathlib.Decide.{ℕ_discrete}
use Rattle.model.specs.Finite.{keep, concat, list_from, below, sum}
use Rattle.model.specs.Field.{bit, unit, weigh}
use Rattle.model.specs.Walk.{WalkAnswer, apart, together, spent, try_replies, try_challenges, examine, walk}
use Rattle.model.specs.Sheet.{fields_offset, total_of, counts, line_of, card_of, field_of}
use Rattle.model.specs.Refusal.{first_of, header_checks, line_checks, sheet_checks, walk_checks}
use Rattle.model.specs.Answer.{refused, given, Session, Walked, within, full_walk, walk_of}
use Rattle.model.specs.Days.{WalkCall, walk_by, calls_by, made_by, day, left_after, answers_of, draws_of}
use Rattle.model.proofs.Worked.{chain}

-- What each of the eight desks has left.
abbrev session : ℕ → ℕ → ℕ → ℕ → ℕ → ℕ → ℕ → ℕ → Session
session a b c d e f g h = record { left = a ∷ b ∷ c ∷ d ∷ e ∷ f ∷ g ∷ h ∷ [] }

-- A walk of fields 0 and 1 of a sheet, with limit 2, by a desk. Of `chain` it counts 10 pairs and answers apart at 2.
abbrev asks : List ℕ → ℕ → WalkCall
asks s d = record { sheet = s; first = 0; second = 1; limit = 2; desk = d }

-- A walk of fields that a sheet does not have, with a limit over 8, by a desk.
abbrev wrong : List ℕ → ℕ → WalkCall
wrong s d = record { sheet = s; first = 2; second = 2; limit = 9; desk = d }

pub record Example : Type 0 where
  pub call : WalkCall
  pub before : Session
  pub walked : Walked

-- An answer, with what is drawn and the session afterwards; a refusal, which leaves the session.
abbrev finds : WalkCall → Session → WalkAnswer → ℕ → Session → Example
finds x v found n after = record { call = x; before = v; walked = record { answer = given found; drawn = n; after = after } }

abbrev refuses : WalkCall → Session → ℕ → ℕ → Example
refuses x v k p = record { call = x; before = v; walked = record { answer = refused k p; drawn = 0; after = v } }

abbrev opened : Session
opened = session 10 20 9 30 0 11 40 50

abbrev pub examples : List Example
examples =
    -- "The walk's count and its spent rule read the named desk's allowance", whatever the others have: of the first, of the last, of one that has too little, of one that has none
    finds (asks chain 0) opened (apart 2) 10 (session 0 20 9 30 0 11 40 50)
    ∷ finds (asks chain 5) opened (apart 2) 10 (session 10 20 9 30 0 1 40 50)
    ∷ finds (asks chain 7) opened (apart 2) 10 (session 10 20 9 30 0 11 40 40)
    ∷ finds (asks chain 2) opened spent 9 (session 10 20 0 30 0 11 40 50)
    ∷ finds (asks chain 4) opened spent 0 opened
    ∷ finds (record { sheet = chain; first = 0; second = 1; limit = 0; desk = 4 }) opened together 0 opened
    -- "16 a desk over 7, place 0, before the header is looked at", and before all else
    ∷ refuses (asks chain 8) opened 16 0 ∷ refuses (asks chain 256) opened 16 0 ∷ refuses (wrong chain 8) opened 16 0 ∷ refuses (asks [] 8) opened 16 0 ∷ refuses (wrong [] 9) opened 16 0
    -- a desk that there is: what document 01 refuses, and no desk loses anything
    ∷ refuses (asks [] 7) opened 1 0 ∷ refuses (wrong chain 7) opened 11 0 ∷ refuses (record { sheet = chain; first = 1; second = 1; limit = 9; desk = 3 }) opened 13 0
    ∷ []

pub desks_worked : map (λ x. walk_by x.call x.before) examples ≡ map (λ x. x.walked) examples
unfolding concat list_from below bit unit ℕ_discrete weigh try_replies try_challenges examine walk fields_offset total_of counts line_of card_of field_of first_of header_checks line_checks sheet_checks walk_checks within full_walk walk_of
desks_worked = refl

-- A day of three desks, one of which there is not, with calls that are refused and calls that are spent.
abbrev pub calls : List WalkCall
calls = asks chain 1 ∷ asks chain 2 ∷ asks [] 1 ∷ asks chain 8 ∷ asks chain 2 ∷ wrong chain 2 ∷ asks chain 1 ∷ asks chain 1 ∷ []

-- What its calls are told, what they draw, and the session that the last one leaves.
pub day_worked : (answers_of (day calls opened) ≡ (given (apart 2) ∷ given spent ∷ refused 1 0 ∷ refused 16 0 ∷ given spent ∷ refused 11 0 ∷ given (apart 2) ∷ given spent ∷ []))
    × (draws_of (day calls opened) ≡ (10 ∷ 9 ∷ 0 ∷ 0 ∷ 0 ∷ 0 ∷ 10 ∷ 0 ∷ []))
    × (left_after opened (day calls opened) ≡ session 10 0 0 30 0 11 40 50)
unfolding concat list_from below bit unit ℕ_discrete weigh try_replies try_challenges examine walk fields_offset total_of counts line_of card_of field_of first_of header_checks line_checks sheet_checks walk_checks within full_walk walk_of day left_after
day_worked = (refl, refl, refl)

-- Of them those of desk 1, as they were asked for and as they were made, and what it drew in all.
pub own_worked : (calls_by 1 calls ≡ (asks chain 1 ∷ asks [] 1 ∷ asks chain 1 ∷ asks chain 1 ∷ []))
    × (answers_of (made_by 1 (day calls opened)) ≡ (given (apart 2) ∷ refused 1 0 ∷ given (apart 2) ∷ given spent ∷ []))
    × (sum (draws_of (made_by 1 (day calls opened))) ≡ 20)
unfolding keep concat list_from below bit unit ℕ_discrete weigh try_replies try_challenges examine walk fields_offset total_of counts line_of card_of field_of first_of header_checks line_checks sheet_checks walk_checks within full_walk walk_of day made_by calls_by sum
own_worked = (refl, refl, refl)
