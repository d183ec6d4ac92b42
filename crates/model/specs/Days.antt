-- Walks one after another, "each made on the session that the last one left" (request 4 of document 02).
use Rattle.std.specs.Prelude.{List, [], ◌∷◌, map, ℕ, eqb}
use Rattle.model.specs.Finite.{keep}
use Rattle.model.specs.Walk.{WalkAnswer}
use Rattle.model.specs.Answer.{Answer, Session, Walked, walk_of}

-- A walk as it is asked for: any sheet, field numbers, round limit and desk.
pub record WalkCall : Type 0 where
  pub sheet : List ℕ
  pub first : ℕ
  pub second : ℕ
  pub limit : ℕ
  pub desk : ℕ

-- What a walk that is asked for comes to on a session.
abbrev pub walk_by : WalkCall → Session → Walked
walk_by x v = walk_of x.sheet x.first x.second x.limit x.desk v

-- A call that was made, and what it came to.
pub record Made (W : Type 0) : Type 0 where
  pub call : WalkCall
  pub walked : W

-- The calls of desk d alone, as they are asked for and as they were made.
unfoldable pub calls_by : ℕ → List WalkCall → List WalkCall
calls_by d xs = keep (λ x. eqb x.desk d) xs

unfoldable pub made_by : {W : Type 0} → ℕ → List (Made W) → List (Made W)
made_by d ms = keep (λ m. eqb m.call.desk d) ms

-- A day: the calls made one after another, the first of them on the session given.
unfoldable pub day : List WalkCall → Session → List (Made Walked)
day [] v = []
day (x ∷ xs) v = let w = walk_by x v in record { call = x; walked = w } ∷ day xs w.after

-- The session that the last call left.
unfoldable pub left_after : Session → List (Made Walked) → Session
left_after v [] = v
left_after v (m ∷ ms) = left_after m.walked.after ms

-- What the calls were told, and what they drew, in their order.
abbrev pub answers_of : List (Made Walked) → List (Answer WalkAnswer)
answers_of ms = map (λ m. m.walked.answer) ms

abbrev pub draws_of : List (Made Walked) → List ℕ
draws_of ms = map (λ m. m.walked.drawn) ms
