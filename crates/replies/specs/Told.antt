-- What a call in words comes to: how it ended, and its text.
use Rattle.std.specs.Prelude.{List, [], ◌≡◌, ℕ, length}
use Rattle.model.specs.Answer.{Answer, refused, given, written}
use Rattle.model.specs.Page.{refused_line}
use Rattle.replies.specs.declared.reply.Outcome.{Outcome}
use Rattle.replies.specs.declared.reply.Outcome.TheVariants.{Answered, Refused, NoCall}
use Rattle.replies.specs.declared.reply.Reply.{Reply}

-- How a call in words ended, and its text.
pub record Told : Type 0 where
  pub outcome : Outcome
  pub text : List ℕ

-- How a call ended that was answered or refused.
unfoldable pub end_of : {A : Type 0} → Answer A → Outcome
end_of (given a) = Answered
end_of (refused number place) = Refused number place

-- An answer's text; a refusal is told as `refused NUMBER PLACE`.
unfoldable pub told : Answer (List ℕ) → Told
told (given text) = record { outcome = Answered; text = text }
told (refused number place) = record { outcome = Refused number place; text = refused_line number place }

-- Words that are no call get no text.
unfoldable pub no_call : Told
no_call = record { outcome = NoCall; text = [] }

-- The reply of a call that was answered, with the length of its text.
abbrev pub answered : ℕ → Reply
answered n = record { outcome = Answered; length = n }

-- The reply to words that are no call.
abbrev pub no_reply : Reply
no_reply = record { outcome = NoCall; length = 0 }

-- A reply, and a lent buffer before and after: how the call ended, the length of its text, and the text at the front of the buffer.
-- "Bytes of a lent buffer past those named keep their values."
pub record Tells (t : Told) (before after : List ℕ) (r : Reply) : Type 0 where
  pub outcome_is : r.outcome ≡ t.outcome
  pub length_is : r.length ≡ length t.text
  pub text_is : after ≡ written t.text before
