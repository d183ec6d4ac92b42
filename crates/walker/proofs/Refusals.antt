-- Laws of the call's checks: 16, then 1 to 8, the sheet's, then 11 and 13.
use mathlib.Core.Bool.{not}
use mathlib.Core.List.{List, [], ◌∷◌, ◌++◌}
use mathlib.Core.Path.{◌≡◌, refl, sym, ap, ◌∙◌}
use Prim.Native.Nat.{ℕ, ◌≤◌, ◌<◌}
use lib.Dec.{ltb, lt→ltb}
use Rattle.model.specs.Limits.{most_rounds, last_desk}
use Rattle.model.specs.Field.{Field, at}
use Rattle.model.specs.Sheet.{field_count, card_of, field_of}
use Rattle.model.specs.Walk.{WalkAnswer, walk}
use Rattle.model.specs.Refusal.{Check, check, clear, refusal, first_of, sheet_checks, walk_checks}
use Rattle.model.specs.Answer.{Answer, refused, given, Session, within, full_walk, walk_of}
use Rattle.theory.proofs.Sheets.{not_less}
use Rattle.theory.proofs.Checks.{first_left, first_right, first_here, first_later}
use Rattle.theory.proofs.Answers.{walk_clear}
use Rattle.validation.specs.Outcome.{checked_of}
use Rattle.validation.specs.Fields.{field_checks}
use Rattle.validation.proofs.Checking.{checked_refused}
use Rattle.validation.proofs.FieldNumbers.{numbers_pass, fields_refused}
use Rattle.walker.specs.Answers.{answer_of, drawn_of, Plays}
use Rattle.walker.specs.declared.entry.Played.{Played}

module _ (s : List ℕ) (i j limit d : ℕ) where
  -- The checks after those of the sheet.
  calls : List Check
  calls = check 11 0 (not (ltb i (field_count s))) ∷ check 11 1 (not (ltb j (field_count s))) ∷ check 13 0 (ltb most_rounds limit) ∷ []

  -- A desk that there is.
  module _ (there : d ≤ last_desk) where
    sheet_first : first_of (walk_checks s i j limit d) ≡ first_of (sheet_checks s ++ calls)
    unfolding walk_checks calls
    sheet_first = first_later _ _ (not_less last_desk d there)

    pub sheet_found : (k p : ℕ) → checked_of s ≡ refused k p → refusal k p ≡ first_of (walk_checks s i j limit d)
    sheet_found k p e = sym (sheet_first ∙ first_left (sheet_checks s) calls k p (checked_refused s k p e))

    -- A sheet that passes 1 to 8.
    module _ (passed : first_of (sheet_checks s) ≡ clear) where
      call_first : first_of (walk_checks s i j limit d) ≡ first_of calls
      call_first = sheet_first ∙ first_right (sheet_checks s) calls passed

      pub fields_found : (k p : ℕ) → first_of (field_checks (field_count s) i j) ≡ refusal k p → refusal k p ≡ first_of (walk_checks s i j limit d)
      unfolding calls
      fields_found k p e = sym (call_first ∙ fields_refused (field_count s) i j (check 13 0 (ltb most_rounds limit) ∷ []) k p e)

      pub limit_found : i < field_count s → j < field_count s → most_rounds < limit → refusal 13 0 ≡ first_of (walk_checks s i j limit d)
      unfolding calls
      limit_found first second h =
          sym (call_first ∙ numbers_pass _ (field_count s) i j first second ∙ first_here _ _ (lt→ltb most_rounds limit h))

  -- The walk of the fields that are named, within what the desk has left, of a call that passes its checks.
  pub call_walks : (v : Session) → first_of (walk_checks s i j limit d) ≡ clear
      → (a b : Field) (allowance : ℕ) → a ≡ field_of s i → b ≡ field_of s j → allowance ≡ at v.left d → (r : Played)
      → Plays r (within allowance (walk (card_of s).lines a b 1 limit)) → drawn_of (answer_of r.answer) r.drawn d v ≡ walk_of s i j limit d v
  unfolding full_walk
  call_walks v passed a b allowance e f own r plays =
      let w = within allowance (walk (card_of s).lines a b 1 limit) in
      ap (λ (x : Answer WalkAnswer). drawn_of x r.drawn d v) plays.0 ∙ ap (λ (n : ℕ). drawn_of (given w.found) n d v) plays.1
      ∙ rw (e, f, own) refl
      ∙ sym (walk_clear s i j limit d v passed)
