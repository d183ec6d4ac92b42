-- The text of a walk, from what the walk gives.
use mathlib.Core.List.{List, ◌++◌}
use mathlib.Core.Path.{◌≡◌, refl, sym}
use Prim.Native.Nat.{ℕ, ◌≤◌, ◌<◌}
use native.Mathlib.Omega.{arith}
use borrow.Author.Tests.{le-leb, lt-leb}
use Rattle.model.specs.Walk.{WalkAnswer}
use Rattle.model.specs.Answer.{Answer, refused, given, walk_of}
use Rattle.text.specs.Appended.{Appended}
use Rattle.text.proofs.Append.{from_start}
use Rattle.walk_text.specs.Line.{drawn_text, found_text, answer_line}
use Rattle.replies.specs.Told.{told, no_call, end_of, Tells}
use Rattle.replies.specs.Texts.{worded}
use Rattle.replies.specs.declared.reply.Outcome.{Outcome}
use Rattle.walk_verb.specs.Texts.{given_to, walk_text}
use Rattle.walk_verb.specs.Calls.{most_narrow, allowance_told}

-- A walk's line, whatever its answer.
walk_told_lem : (answer : Answer WalkAnswer) (drawn : ℕ)
    → record { outcome = end_of answer; text = answer_line answer drawn } ≡ told (worded (λ found. found_text found ++ drawn_text drawn) answer)
unfolding end_of answer_line worded told
walk_told_lem (given found) drawn = refl
walk_told_lem (refused number place) drawn = refl

module _ (s : List ℕ) (i j limit allowance desk : ℕ) where
  pub walk_tells : {m end : ℕ} {before after : List ℕ} {o : Outcome}
      → (let w = walk_of s i j limit desk (record { left = given_to desk allowance }) in o ≡ end_of w.answer
      → Appended m before 0 (answer_line w.answer w.drawn) after end → Tells (told (walk_text s i j limit allowance desk)) before after (record { outcome = o; length = end }))
  unfolding walk_text
  walk_tells e put =
      let w = walk_of s i j limit desk (record { left = given_to desk allowance }) in
      rw (sym (walk_told_lem w.answer w.drawn)) (record { outcome_is = e; length_is = omega (arith, put.ends); text_is = from_start put })

  -- An allowance of 32 bits, and one past them.
  pub allowance_taken : allowance ≤ most_narrow → told (walk_text s i j limit allowance desk) ≡ allowance_told s i j limit allowance desk
  unfolding allowance_told
  allowance_taken h = rw (le-leb allowance most_narrow h, allowance_told) refl

  pub allowance_past : most_narrow < allowance → no_call ≡ allowance_told s i j limit allowance desk
  unfolding allowance_told
  allowance_past h = rw (lt-leb allowance most_narrow h, allowance_told) refl
