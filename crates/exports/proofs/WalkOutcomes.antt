-- What Walk comes to, from what the library's function answered.
use mathlib.Core.List.{List}
use mathlib.Core.Logic.{◌⊎◌, inl, inr}
use mathlib.Core.Path.{◌≡◌, refl, sym, ◌∙◌, ap}
use Prim.Native.Nat.{ℕ, ◌≤◌, ◌<◌}
use native.Mathlib.Decide.{dec_lt}
use native.Mathlib.Omega.{arith}
use borrow.Author.Tests.{lt-ltb, le-ltb}
use lib.ListN.{length}
use Rattle.model.specs.Walk.{WalkAnswer, apart, together, spent}
use Rattle.model.specs.Refusal.{Finding, clear, refusal, first_of, walk_checks}
use Rattle.model.specs.Answer.{Answer, refused, given, written, Walked, walk_of}
use Rattle.theory.proofs.Answers.{walk_clear, demand1}
use Rattle.arrays.specs.Reply.{refusing, reply_of, laid_out}
use Rattle.arrays.specs.Session.{desks, short_code_by, short_walk}
use Rattle.exports.specs.Calls.{walk_values, lent_session, of_desks, walk_call}
use Rattle.arrays.proofs.Replies.{reply_refuses, reply_short, reply_gives}

-- A session with room for all desks, and one without.
of_desks_lem : (session values : List ℕ) → desks ≤ length session → of_desks session (given values) ≡ given values
unfolding of_desks
of_desks_lem session values h = rw (le-ltb (length session) desks h, of_desks) refl

of_fewer : (session values : List ℕ) → length session < desks → of_desks session (given values) ≡ refused 12 0
unfolding of_desks
of_fewer session values h = rw (lt-ltb (length session) desks h, of_desks) refl

three_values : (drawn : ℕ) (a : WalkAnswer) → length (walk_values drawn a) ≡ 3
three_values drawn together = refl
three_values drawn (apart rounds) = refl
three_values drawn spent = refl

module _ (s : List ℕ) (i j limit d : ℕ) (session array : List ℕ) where
  module _ (w : Walked) (e : w ≡ walk_of s i j limit d (lent_session session)) where
    replied : walk_call s i j limit d session array
        ≡ reply_of (of_desks session (laid_out (walk_values w.drawn) w.answer)) session (written w.after.left session) array
    unfolding walk_call
    replied = ap (λ (x : Walked). reply_of (of_desks session (laid_out (walk_values x.drawn) x.answer)) session (written x.after.left session) array) (sym e)

    pub walk_refuses : (k p : ℕ) → w.answer ≡ refused k p → walk_call s i j limit d session array ≡ refusing k p session array
    unfolding of_desks
    walk_refuses k p h =
        replied ∙ reply_refuses session (written w.after.left session) array _ k p (ap (λ (x : Answer WalkAnswer). of_desks session (laid_out (walk_values w.drawn) x)) h)

    laid_out_is : (a : WalkAnswer) → w.answer ≡ given a → of_desks session (laid_out (walk_values w.drawn) w.answer) ≡ of_desks session (given (walk_values w.drawn a))
    laid_out_is a h = ap (λ (x : Answer WalkAnswer). of_desks session (laid_out (walk_values w.drawn) x)) h

    pub walk_gives : (a : WalkAnswer) → w.answer ≡ given a → desks ≤ length session → 3 ≤ length array
        → walk_call s i j limit d session array ≡ record { code = 0; lent = written w.after.left session; values = written (walk_values w.drawn a) array }
    walk_gives a h room space =
        replied
        ∙ reply_gives session (written w.after.left session) array (walk_values w.drawn a) _ (laid_out_is a h ∙ of_desks_lem session (walk_values w.drawn a) room) (omega (arith, three_values w.drawn a))

    given_short : (a : WalkAnswer) → w.answer ≡ given a → (length session < desks) ⊎ (length array < 3) → walk_call s i j limit d session array ≡ refusing 12 0 session array
    given_short a h short = replied ∙ go (dec_lt (length session) desks) short
      where
        go : Dec (length session < desks) → (length session < desks) ⊎ (length array < 3)
            → reply_of (of_desks session (laid_out (walk_values w.drawn) w.answer)) session (written w.after.left session) array ≡ refusing 12 0 session array
        go (yes few) short = reply_refuses session _ array _ 12 0 (laid_out_is a h ∙ of_fewer session (walk_values w.drawn a) few)
        go (no all) (inl few) = absurd (all few)
        go (no all) (inr none) = reply_short session _ array (walk_values w.drawn a) _ (laid_out_is a h ∙ of_desks_lem session (walk_values w.drawn a) (omega arith)) (omega (arith, three_values w.drawn a))

  -- Where an array has no room, the other checks come first, and nothing changes.
  pub walk_short : (length session < desks) ⊎ (length array < 3) → walk_call s i j limit d session array ≡ record { code = short_walk s i j limit d; lent = session; values = array }
  walk_short short = go (first_of (walk_checks s i j limit d)) refl
    where
      w : Walked
      w = walk_of s i j limit d (lent_session session)

      go : (f : Finding) → first_of (walk_checks s i j limit d) ≡ f → walk_call s i j limit d session array ≡ record { code = short_code_by f; lent = session; values = array }
      go clear e = given_short w refl _ (ap (λ (x : Walked). x.answer) (walk_clear s i j limit d (lent_session session) e)) short
      go (refusal k p) e = walk_refuses w refl k p (ap (λ (x : Walked). x.answer) ((demand1 s).walk_refused i j limit d (lent_session session) k p e))
