-- What Settle with the marks comes to from C, from what the filer's function answered.
use mathlib.Core.Bool.{Bool, true, false}
use mathlib.Core.List.{List, [], ◌∷◌}
use mathlib.Core.Path.{◌≡◌, refl, ap}
use Prim.Native.Nat.{ℕ, ◌*◌, ◌≤◌, ◌<◌}
use lib.Dec.{ltb}
use lib.ListN.{length}
use Rattle.model.specs.Sheet.{kind_count, card_of}
use Rattle.model.specs.Base.{settled_stage}
use Rattle.model.specs.Refusal.{Finding, clear, refusal, check, first_of, accept_checks, settle_since_checks}
use Rattle.model.specs.Answer.{refused, given, LentMarks, written, table_of, marks_of, settle_since_of}
use Rattle.theory.proofs.Checks.{first_left, first_right}
use Rattle.theory.proofs.Told.{found}
use Rattle.theory.proofs.Answers.{demand1}
use Rattle.arrays.specs.Reply.{Reply, refusing, laid_out}
use Rattle.arrays.specs.Session.{short_code_by}
use Rattle.exports.specs.Calls.{stage_values, TableAndMarks, settle_since_call, short_code}
use Rattle.arrays.proofs.Replies.{lent_is, reply_refuses, reply_short, reply_gives}

-- The two that are lent, of a call that comes to y.
module _ {x y : Reply TableAndMarks} (e : x ≡ y) where
  pub table_is : y.lent.table ≡ x.lent.table
  table_is = ap (λ (z : TableAndMarks). z.table) (lent_is e)

  pub marks_are : y.lent.marks ≡ x.lent.marks
  marks_are = ap (λ (z : TableAndMarks). z.marks) (lent_is e)

module _ (s table marks : List ℕ) where
  -- What is lent, before and after.
  abbrev before : TableAndMarks
  before = record { table = table; marks = marks }

  abbrev after : TableAndMarks
  after = record { table = (settle_since_of s table marks).table; marks = (settle_since_of s table marks).marks }

  since_found : (k p : ℕ) → (settle_since_of s table marks).answer ≡ refused k p → first_of (settle_since_checks s (length table) (length marks)) ≡ refusal k p
  unfolding settle_since_of
  since_found k p e =
      (found (λ (x : LentMarks ℕ). x.answer) (record { answer = given (settled_stage (card_of s)); table = written (table_of s) table; marks = written (marks_of s) marks })
      (λ k p. record { answer = refused k p; table = table; marks = marks }) (settled_stage (card_of s)) refl (λ k p. refl) (first_of (settle_since_checks s (length table) (length marks))) k p).0 e

  -- A call that was refused left both as they were.
  pub since_kept : (k p : ℕ) → (settle_since_of s table marks).answer ≡ refused k p → ((settle_since_of s table marks).table ≡ table) × ((settle_since_of s table marks).marks ≡ marks)
  since_kept k p e =
      let r = (demand1 s).since_refused table marks k p (since_found k p e) in
      (ap (λ (x : LentMarks ℕ). x.table) r, ap (λ (x : LentMarks ℕ). x.marks) r)

  answered : (f : Finding) → first_of (settle_since_checks s (length table) (length marks)) ≡ f → (settle_since_of s table marks).answer ≡ elim f [ clear ↦ given (settled_stage (card_of s)) | refusal k p ↦ refused k p ]
  answered clear e = ap (λ (x : LentMarks ℕ). x.answer) ((demand1 s).since_given table marks e)
  answered (refusal k p) e = ap (λ (x : LentMarks ℕ). x.answer) ((demand1 s).since_refused table marks k p e)

  module _ (array : List ℕ) where
    pub since_refuses : (k p : ℕ) → (settle_since_of s table marks).answer ≡ refused k p → settle_since_call s table marks array ≡ refusing k p before array
    unfolding settle_since_call
    since_refuses k p e = reply_refuses before after array _ k p (ap (laid_out stage_values) e)

    pub since_gives : (t : ℕ) → (settle_since_of s table marks).answer ≡ given t → 1 ≤ length array
        → settle_since_call s table marks array ≡ record { code = 0; lent = after; values = written (stage_values t) array }
    unfolding settle_since_call
    since_gives t e h = reply_gives before after array (stage_values t) _ (ap (laid_out stage_values) e) h

    given_short : (t : ℕ) → (settle_since_of s table marks).answer ≡ given t → length array < 1 → settle_since_call s table marks array ≡ refusing 12 0 before array
    unfolding settle_since_call
    given_short t e h = reply_short before after array (stage_values t) _ (ap (laid_out stage_values) e) h

    -- Where the answer array has no room, the sheet's own refusal comes first, and then 12 comes whatever the lengths of the two.
    pub since_short : length array < 1 → settle_since_call s table marks array ≡ record { code = short_code s; lent = before; values = array }
    unfolding first_of settle_since_checks
    since_short h = go (first_of (accept_checks s)) refl
      where
        by_room : (b d : Bool) → first_of (settle_since_checks s (length table) (length marks)) ≡ first_of (check 12 0 b ∷ check 12 0 d ∷ []) → settle_since_call s table marks array ≡ refusing 12 0 before array
        by_room true d e = since_refuses 12 0 (answered (refusal 12 0) e)
        by_room false true e = since_refuses 12 0 (answered (refusal 12 0) e)
        by_room false false e = given_short (settled_stage (card_of s)) (answered clear e) h

        go : (f : Finding) → first_of (accept_checks s) ≡ f → settle_since_call s table marks array ≡ record { code = short_code_by f; lent = before; values = array }
        go (refusal k p) e = since_refuses k p (answered (refusal k p) (first_left (accept_checks s) _ k p e))
        go clear e = by_room (ltb (length table) (kind_count s * kind_count s)) (ltb (length marks) (kind_count s)) (first_right (accept_checks s) _ e)
