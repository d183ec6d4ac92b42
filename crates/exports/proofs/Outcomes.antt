-- What each call comes to, from what the library's function answered.
use mathlib.Core.Bool.{Bool, true, false}
use mathlib.Core.List.{List, [], ◌∷◌}
use mathlib.Core.Path.{◌≡◌, refl, sym, ◌∙◌, ap}
use Prim.Native.Nat.{ℕ, ◌*◌, ◌^◌, ◌≤◌, ◌<◌}
use native.Mathlib.Omega.{arith}
use lib.Dec.{ltb}
use lib.ListN.{length}
use Rattle.model.specs.Sense.{Sense}
use Rattle.model.specs.Sheet.{kind_count, card_of}
use Rattle.model.specs.Base.{settled_stage}
use Rattle.model.specs.Refusal.{Finding, clear, refusal, check, first_of, sheet_checks, accept_checks, settle_checks, form_checks, shelf_field_checks, frequencies_checks}
use Rattle.model.specs.Answer.{Answer, refused, given, Lent, written, Verdict, Shelved, table_of, prime_form_in, shelf_counts, frequencies, row_check_of, settle_of, forming_in, shelf_number_of, shelf_field_of, frequencies_of}
use Rattle.std.specs.Prelude.{Result, Ok, Err, IfErr}
use Rattle.theory.proofs.Checks.{first_left, first_right}
use Rattle.refusals.specs.Refusals.{number_of, place_of, answer_of}
use Rattle.refusals.specs.declared.Refusal.{Refusal}
use Rattle.sheet.specs.declared.reader.Card.{Card}
use Rattle.sheet.specs.Reader.{Reads}
use Rattle.arrays.specs.Reply.{code_of, refusing, reply_of, laid_out, values_reply}
use Rattle.arrays.specs.Session.{short_code_by}
use Rattle.arrays.specs.Values.{row_values, card_values, verdict_values, shelved_values}
use Rattle.exports.specs.Calls.{found_or, row_call, number_values, numbers_call, stage_values, settle_call, short_code, verdict_call, no_values, writing_call, written_code, shelf_number_call, shelf_field_call, frequencies_call}
use Rattle.arrays.proofs.Replies.{code_is, lent_is, reply_refuses, reply_short, reply_gives}

-- A call that gives the same values wherever its checks find nothing.
module _ (values : List ℕ) (f : Finding) (array : List ℕ) where
  found_refuses : (q p : ℕ) → f ≡ refusal q p → reply_of {B = Unit {0}} (found_or values f) tt tt array ≡ refusing q p tt array
  found_refuses q p e = reply_refuses tt tt array (found_or values f) q p (ap (found_or values) e)

  found_gives : f ≡ clear → reply_of {B = Unit {0}} (found_or values f) tt tt array ≡ values_reply values array
  found_gives e = ap (λ (g : Finding). reply_of (found_or values g) tt tt array) e

-- Row's check.
module _ (n k : ℕ) (table array : List ℕ) where
  pub row_refuses : (q p : ℕ) → row_check_of n k table ≡ refusal q p → row_call n k table array ≡ refusing q p tt array
  unfolding row_call
  row_refuses q p e = found_refuses (row_values n k) (row_check_of n k table) array q p e

  pub row_gives : row_check_of n k table ≡ clear → row_call n k table array ≡ values_reply (row_values n k) array
  unfolding row_call
  row_gives e = found_gives (row_values n k) (row_check_of n k table) array e

-- Numbers: those of the card that was read.
module _ (s array : List ℕ) where
  pub numbers_refuses : (q p : ℕ) → first_of (sheet_checks s) ≡ refusal q p → numbers_call s array ≡ refusing q p tt array
  unfolding numbers_call
  numbers_refuses q p e = found_refuses (number_values s) (first_of (sheet_checks s)) array q p e

  pub numbers_gives : (c : Card) → Reads s c → numbers_call s array ≡ values_reply (card_values c) array
  unfolding numbers_call
  numbers_gives c h = rw h.header (found_gives (number_values s) (first_of (sheet_checks s)) array h.passed)

-- Compare and finer Compare, by the verdict.
module _ (array : List ℕ) where
  pub verdict_refuses : (a : Answer Verdict) (k p : ℕ) → a ≡ refused k p → verdict_call a array ≡ refusing k p tt array
  unfolding verdict_call
  verdict_refuses a k p e = reply_refuses tt tt array _ k p (ap (laid_out verdict_values) e)

  pub verdict_gives : (a : Answer Verdict) (v : Verdict) → a ≡ given v → verdict_call a array ≡ values_reply (verdict_values v) array
  unfolding verdict_call
  verdict_gives a v e = ap (λ (y : Answer Verdict). reply_of (laid_out verdict_values y) tt tt array) e

-- A call that was refused left what was lent as it was.
module _ {A : Type 0} (a : A) (after before : List ℕ) where
  abbrev LentBy : Finding → Lent A
  LentBy f = elim f as (λ _. Lent A) [ clear ↦ record { answer = given a; lent = after } | refusal k p ↦ record { answer = refused k p; lent = before } ]

  kept : (f : Finding) (k p : ℕ) → (LentBy f).answer ≡ refused k p → (LentBy f).lent ≡ before
  kept clear k p e = let z : ◌≡◌ {A = ℕ} 0 1 = cc in absurd (omega arith)
  kept (refusal j q) k p e = refl

-- Settle.
module _ (s table : List ℕ) where
  pub settle_kept : (k p : ℕ) → (settle_of s table).answer ≡ refused k p → (settle_of s table).lent ≡ table
  unfolding settle_of
  settle_kept k p e = kept (settled_stage (card_of s)) (written (table_of s) table) table (first_of (settle_checks s (length table))) k p e

  settled_by_is : (f : Finding) → first_of (settle_checks s (length table)) ≡ f → settle_of s table ≡ LentBy (settled_stage (card_of s)) (written (table_of s) table) table f
  unfolding settle_of
  settled_by_is f e = ap (LentBy (settled_stage (card_of s)) (written (table_of s) table) table) e

  module _ (array : List ℕ) where
    pub settle_refuses : (k p : ℕ) → (settle_of s table).answer ≡ refused k p → settle_call s table array ≡ refusing k p table array
    unfolding settle_call
    settle_refuses k p e = reply_refuses table (settle_of s table).lent array _ k p (ap (laid_out stage_values) e)

    pub settle_gives : (t : ℕ) → (settle_of s table).answer ≡ given t → 1 ≤ length array
        → settle_call s table array ≡ record { code = 0; lent = (settle_of s table).lent; values = written (stage_values t) array }
    unfolding settle_call
    settle_gives t e h = reply_gives table (settle_of s table).lent array (stage_values t) _ (ap (laid_out stage_values) e) h

    given_short : (t : ℕ) → (settle_of s table).answer ≡ given t → length array < 1 → settle_call s table array ≡ refusing 12 0 table array
    unfolding settle_call
    given_short t e h = reply_short table (settle_of s table).lent array (stage_values t) _ (ap (laid_out stage_values) e) h

    -- Where the answer array has no room, the sheet's own refusal comes first, and then 12 comes whatever the table's length.
    pub settle_short : length array < 1 → settle_call s table array ≡ record { code = short_code s; lent = table; values = array }
    unfolding first_of settle_checks
    settle_short h = go (first_of (accept_checks s)) refl
      where
        answered : (f : Finding) → first_of (settle_checks s (length table)) ≡ f → (settle_of s table).answer ≡ (LentBy (settled_stage (card_of s)) (written (table_of s) table) table f).answer
        answered f e = ap (λ (x : Lent ℕ). x.answer) (settled_by_is f e)

        by_room : (b : Bool) → first_of (settle_checks s (length table)) ≡ first_of (check 12 0 b ∷ []) → settle_call s table array ≡ refusing 12 0 table array
        by_room true d = settle_refuses 12 0 (answered (refusal 12 0) d)
        by_room false d = given_short (settled_stage (card_of s)) (answered clear d) h

        go : (f : Finding) → first_of (accept_checks s) ≡ f
            → settle_call s table array ≡ record { code = short_code_by f; lent = table; values = array }
        go (refusal k p) e = settle_refuses k p (answered (refusal k p) (first_left (accept_checks s) _ k p e))
        go clear e = by_room (ltb (length table) (kind_count s * kind_count s)) (first_right (accept_checks s) _ e)

pub short_clear : (s : List ℕ) → first_of (accept_checks s) ≡ clear → 12 ≡ short_code s
short_clear s e = sym (ap short_code_by e)

pub short_refused : (s : List ℕ) (k p : ℕ) → first_of (accept_checks s) ≡ refusal k p → code_of k p ≡ short_code s
short_refused s k p e = sym (ap short_code_by e)

-- A call that has no values.
module _ (buffer : List ℕ) (x : Lent (Unit {0})) where
  pub writing_refuses : (k p : ℕ) → x.answer ≡ refused k p → writing_call buffer x ≡ refusing k p buffer []
  unfolding writing_call
  writing_refuses k p e = reply_refuses buffer x.lent [] _ k p (ap (laid_out no_values) e)

  pub writing_gives : x.answer ≡ given tt → writing_call buffer x ≡ record { code = 0; lent = x.lent; values = written [] [] }
  unfolding writing_call
  writing_gives e = reply_gives buffer x.lent [] [] _ (ap (laid_out no_values) e) (omega arith)

  -- What is returned, and the buffer, which is as the call left it: a refusal leaves it as it was.
  pub writing_called : ((k p : ℕ) → x.answer ≡ refused k p → x.lent ≡ buffer)
      → (a : Answer (Unit {0})) → a ≡ x.answer → (written_code a ≡ (writing_call buffer x).code) × (x.lent ≡ (writing_call buffer x).lent)
  writing_called left (given _) e = let w = writing_gives (sym e) in (code_is w, lent_is w)
  writing_called left (refused k p) e = let w = writing_refuses k p (sym e) in (code_is w, left k p (sym e) ∙ lent_is w)

-- A call's refusal fits what is returned where each refusal of its answer does.
pub refused_fits : {A : Type 0} (r : Result A Refusal) → ((k p : ℕ) → answer_of {B = Unit {0}} (λ x. tt) r ≡ refused k p → code_of k p < 2 ^ 32) → IfErr r (λ e. code_of (number_of e) (place_of e) < 2 ^ 32)
refused_fits (Ok x) fits = tt
refused_fits (Err e) fits = fits _ _ refl

-- Prime form and finer Prime form.
module _ (sense : Sense) (s : List ℕ) (i : ℕ) (buffer : List ℕ) where
  abbrev x : Lent (Unit {0})
  x = forming_in sense s i buffer

  form_kept : (k p : ℕ) → (forming_in sense s i buffer).answer ≡ refused k p → (forming_in sense s i buffer).lent ≡ buffer
  unfolding forming_in
  form_kept k p e = kept tt (written (prime_form_in sense s i) buffer) buffer (first_of (form_checks s i (length buffer))) k p e

  pub form_called : (a : Answer (Unit {0})) → a ≡ x.answer → (written_code a ≡ (writing_call buffer x).code) × (x.lent ≡ (writing_call buffer x).lent)
  form_called = writing_called buffer x form_kept

-- Shelf number.
module _ (s : List ℕ) (i : ℕ) (array : List ℕ) where
  pub shelf_number_refuses : (k p : ℕ) → shelf_number_of s i ≡ refused k p → shelf_number_call s i array ≡ refusing k p tt array
  unfolding shelf_number_call
  shelf_number_refuses k p e = reply_refuses tt tt array _ k p (ap (laid_out shelved_values) e)

  pub shelf_number_gives : (a : Shelved) → shelf_number_of s i ≡ given a → shelf_number_call s i array ≡ values_reply (shelved_values a) array
  unfolding shelf_number_call
  shelf_number_gives a e = ap (λ (y : Answer Shelved). reply_of (laid_out shelved_values y) tt tt array) e

-- Shelf field.
module _ (s : List ℕ) (t x : ℕ) (buffer : List ℕ) where
  pub shelf_field_kept : (k p : ℕ) → (shelf_field_of s t x buffer).answer ≡ refused k p → (shelf_field_of s t x buffer).lent ≡ buffer
  unfolding shelf_field_of
  shelf_field_kept k p e = kept tt (written (shelf_counts s t x) buffer) buffer (first_of (shelf_field_checks s t x (length buffer))) k p e

  pub shelf_field_refuses : (k p : ℕ) → (shelf_field_of s t x buffer).answer ≡ refused k p → shelf_field_call s t x buffer ≡ refusing k p buffer []
  shelf_field_refuses k p e = writing_refuses buffer (shelf_field_of s t x buffer) k p e

  pub shelf_field_gives : (shelf_field_of s t x buffer).answer ≡ given tt
      → shelf_field_call s t x buffer ≡ record { code = 0; lent = (shelf_field_of s t x buffer).lent; values = written [] [] }
  shelf_field_gives e = writing_gives buffer (shelf_field_of s t x buffer) e

-- Frequencies.
module _ (s : List ℕ) (i t : ℕ) (buffer : List ℕ) where
  frequencies_kept : (k p : ℕ) → (frequencies_of s i t buffer).answer ≡ refused k p → (frequencies_of s i t buffer).lent ≡ buffer
  unfolding frequencies_of
  frequencies_kept k p e = kept tt (written (frequencies s i t) buffer) buffer (first_of (frequencies_checks s i t (length buffer))) k p e

  pub frequencies_called : (a : Answer (Unit {0})) → a ≡ (frequencies_of s i t buffer).answer
      → (written_code a ≡ (frequencies_call s i t buffer).code) × ((frequencies_of s i t buffer).lent ≡ (frequencies_call s i t buffer).lent)
  frequencies_called = writing_called buffer (frequencies_of s i t buffer) frequencies_kept
