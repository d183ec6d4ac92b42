-- What a text that was appended to the front of a buffer tells.
use mathlib.Core.List.{List}
use mathlib.Core.Path.{◌≡◌, refl, sym, ap}
use Prim.Native.Nat.{ℕ, ◌≤◌}
use native.Mathlib.Omega.{arith}
use lib.ListN.{length, drop, length-append}
use Rattle.model.specs.Answer.{refused, given, written}
use Rattle.model.specs.Page.{refused_line}
use Rattle.text.specs.Appended.{Appended}
use Rattle.text.proofs.Append.{from_start}
use Rattle.replies.specs.Told.{Told, told, no_call, answered, no_reply, Tells}
use Rattle.replies.specs.declared.reply.Outcome.TheVariants.{Refused}
use Rattle.replies.specs.declared.reply.Reply.{Reply}

pub tells_answer : {m end : ℕ} {before after text : List ℕ} → Appended m before 0 text after end → (r : Reply) → r ≡ answered end → Tells (told (given text)) before after r
unfolding told
tells_answer put r e =
    record { outcome_is = ap (λ (x : Reply). x.outcome) e; length_is = omega (arith, put.ends, ap (λ (x : Reply). x.length) e); text_is = from_start put }

pub tells_refusal : {m end : ℕ} {before after : List ℕ} (number place : ℕ) → Appended m before 0 (refused_line number place) after end
    → Tells (told (refused number place)) before after (record { outcome = Refused number place; length = end })
unfolding told
tells_refusal number place put = record { outcome_is = refl; length_is = omega (arith, put.ends); text_is = from_start put }

-- Words that are no call leave the buffer alone.
pub tells_nothing : (buffer : List ℕ) (r : Reply) → r ≡ no_reply → Tells no_call buffer buffer r
unfolding no_call written
tells_nothing buffer r e = record { outcome_is = ap (λ (x : Reply). x.outcome) e; length_is = ap (λ (x : Reply). x.length) e; text_is = refl }

-- What a reply tells, by another name.
pub told_as : {t : Told} {before after : List ℕ} {r : Reply} (u : Told) → Tells t before after r → t ≡ u → Tells u before after r
told_as u tells e = rw (sym e) tells

-- The text lies in the buffer: what a caller that takes it from there owes.
pub tells_within : {t : Told} {before after : List ℕ} {r : Reply} → Tells t before after r → r.length ≤ length after
unfolding written
tells_within {t} {before} tells = omega (arith, tells.length_is, ap length tells.text_is, length-append t.text (drop (length t.text) before))
