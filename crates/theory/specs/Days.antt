-- What is claimed of walks made one after another (request 4 of document 02): the desks of a session do not touch one another.
use Rattle.std.specs.Prelude.{List, ◌≡◌, ℕ, ◌+◌}
use Rattle.model.specs.Finite.{sum}
use Rattle.model.specs.Field.{at}
use Rattle.model.specs.Answer.{Session}
use Rattle.model.specs.Days.{WalkCall, calls_by, made_by, day, left_after, answers_of, draws_of}

-- Of any calls, "each made on the session that the last one left", whatever sheets, fields, limits and desks they name, of the session v that the first is made on, and of desk d.
pub record Day (calls : List WalkCall) (v : Session) (d : ℕ) : Type 0 where
  -- "each desk's draws sum to the loss in its own allowance"
  pub draws_sum : at (left_after v (day calls v)).left d + sum (draws_of (made_by d (day calls v))) ≡ at v.left d
  -- "No call by one desk, refused or spent, alters another desk's answer or what it has left": among all calls the desk is told what it would be told if its own calls were the only ones, draws
  -- as much, and has as much left.
  pub own_answers : answers_of (made_by d (day calls v)) ≡ answers_of (day (calls_by d calls) v)
  pub own_draws : draws_of (made_by d (day calls v)) ≡ draws_of (day (calls_by d calls) v)
  pub own_left : at (left_after v (day calls v)).left d ≡ at (left_after v (day (calls_by d calls) v)).left d
  -- What the other desks ask and were given does not matter: two days on which the desk makes the same calls from the same allowance are alike for it.
  pub only_own : (others : List WalkCall) (u : Session) → calls_by d calls ≡ calls_by d others → at v.left d ≡ at u.left d
      → (answers_of (made_by d (day calls v)) ≡ answers_of (made_by d (day others u))) × (draws_of (made_by d (day calls v)) ≡ draws_of (made_by d (day others u)))
      × (at (left_after v (day calls v)).left d ≡ at (left_after u (day others u)).left d)
