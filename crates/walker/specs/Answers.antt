-- The walk's answer and session as the model has them: what each case of the enum stands for.
use Rattle.std.specs.Prelude.{◌≡◌, ℕ}
use Rattle.model.specs.Walk.{WalkAnswer, apart, together, spent, Walk}
use Rattle.model.specs.Answer as model
use Rattle.walker.specs.declared.entry.Answer.{Answer}
use Rattle.walker.specs.declared.entry.Answer.TheVariants.{Apart, Together, Spent, Refused}
use Rattle.walker.specs.declared.entry.Played.{Played}
use Rattle.walker.specs.declared.entry.Session.{Session}
use Rattle.walker.specs.declared.entry.Walked.{Walked}

-- "apart with the first number of rounds that parts the pair, together, or spent", or a refusal's number and place.
abbrev pub answer_of : Answer → model.Answer WalkAnswer
answer_of (Apart rounds) = model.given (apart rounds)
answer_of Together = model.given together
answer_of Spent = model.given spent
answer_of (Refused number place) = model.refused number place

-- What each desk has left.
abbrev pub session_of : Session → model.Session
session_of v = record { left = v.left }

-- The answer, the pairs drawn and the session afterwards.
abbrev pub walked_of : Walked → model.Walked
walked_of w = record { answer = answer_of w.answer; drawn = w.drawn; after = session_of w.session }

-- "A refused call leaves .. the session as [it was]", and draws nothing.
abbrev pub refused_of : ℕ → ℕ → model.Session → model.Walked
refused_of number place v = record { answer = model.refused number place; drawn = 0; after = v }

-- An answer for which a desk drew so many pairs.
abbrev pub drawn_of : model.Answer WalkAnswer → ℕ → ℕ → model.Session → model.Walked
drawn_of answer drawn desk v = record { answer = answer; drawn = drawn; after = model.drawing v desk drawn }

-- "Spent .. draws all of it": of the allowance left.
abbrev pub spent_of : ℕ → Walk
spent_of left = record { found = spent; count = left }

-- A walk that is not refused found this, and draws its count.
abbrev pub Plays : Played → Walk → Type 0
Plays r w = (answer_of r.answer ≡ model.given w.found) × (r.drawn ≡ w.count)
