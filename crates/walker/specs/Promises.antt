-- What the walk's answer means: demand 1, the round game and whole days, said of the enum that the call returns, of what it draws and of the session that it leaves.
use Rattle.std.specs.Prelude.{List, [], ◌∷◌, map, ◌↔◌, ◌≡◌, ℕ, ◌+◌, ◌≤◌, ◌<◌, min}
use Rattle.theory.specs.Game.{Holds}
use Rattle.model.specs.Finite.{sum}
use Rattle.model.specs.Field.{at}
use Rattle.model.specs.Sheet.{field_count, card_of, field_of}
use Rattle.model.specs.Limits.{most_rounds, last_desk}
use Rattle.model.specs.Refusal.{clear, refusal, first_of, sheet_checks, walk_checks}
use Rattle.model.specs.Answer.{full_walk, walk_of}
use Rattle.model.specs.Days.{WalkCall, walk_by, Made, calls_by, made_by}
use Rattle.walker.specs.Answers.{session_of, walked_of}
use Rattle.walker.specs.declared.entry.Answer.{Answer}
use Rattle.walker.specs.declared.entry.Answer.TheVariants.{Apart, Together, Spent, Refused}
use Rattle.walker.specs.declared.entry.Session.{Session}
use Rattle.walker.specs.declared.entry.Walked.{Walked}

-- Walk, of the bytes s, two field numbers, a round limit, a desk and a session: its answer, what it draws and the session afterwards.
module _ (s : List ℕ) (i j limit d : ℕ) (before : Session) (walked : Walked) where
  pub record WalkAnswers : Type 0 where
    -- Demand 1: "Every other sheet, field number, round limit .." or desk "gets the first number that applies in the table", with its place.
    pub refused : (k p : ℕ) → (walked.answer ≡ Refused k p) ↔ (first_of (walk_checks s i j limit d) ≡ refusal k p)
    -- "A refused call leaves every buffer and the session as they were", and draws nothing.
    pub unchanged : (k p : ℕ) → walked.answer ≡ Refused k p → (walked.drawn ≡ 0) × (walked.session ≡ before)
    -- "16 a desk over 7, place 0, before the header is looked at": whatever the bytes are.
    pub no_desk : last_desk < d → walked.answer ≡ Refused 16 0
    -- "two fields, a round limit 0 to 8 .. It takes cards without norms", "a walk names its desk": it is not refused just when the desk is one of the eight, the sheet passes 1 to 8 and the
    -- three other numbers are such.
    pub taken : ((k p : ℕ) → ¬ (walked.answer ≡ Refused k p))
        ↔ ((d ≤ last_desk) × (first_of (sheet_checks s) ≡ clear) × (i < field_count s) × (j < field_count s) × (limit ≤ most_rounds))
    -- What is drawn is what the desk loses, refused or not, and no other desk loses anything.
    pub loses : at walked.session.left d + walked.drawn ≡ at before.left d
    pub others : (e : ℕ) → ¬ (e ≡ d) → at walked.session.left e ≡ at before.left e

  -- Of a call that is not refused. "Its count is the number of pairs examined, summed over the numbers of rounds tried."
  pub record WalkMeans : Type 0 where
    -- "Spent is given if the full count would pass the allowance left, and draws all of it": "The walk's count and its spent rule read the named desk's allowance."
    pub spent : (walked.answer ≡ Spent) ↔ (at before.left d < (full_walk s i j limit).count)
    pub spends : walked.answer ≡ Spent → (walked.drawn ≡ at before.left d) × (at walked.session.left d ≡ 0)
    -- "A walk draws its count", as far as the desk's allowance goes.
    pub draws : walked.drawn ≡ min (full_walk s i j limit).count (at before.left d)
    -- "answers apart with the first number of rounds that parts the pair": "A pair is parted within r rounds when it does not hold at r."
    pub apart : (r : ℕ) → (walked.answer ≡ Apart r)
        ↔ ((¬ (at before.left d < (full_walk s i j limit).count)) × (r ≤ limit) × (¬ Holds (card_of s) r (field_of s i) (field_of s j))
        × ((q : ℕ) → q < r → Holds (card_of s) q (field_of s i) (field_of s j)))
    -- "together": no number of rounds up to the limit parts the pair, which holds at the limit.
    pub together : (walked.answer ≡ Together) ↔ ((¬ (at before.left d < (full_walk s i j limit).count)) × Holds (card_of s) limit (field_of s i) (field_of s j))

-- "calls each made on the session that the last one left": every call of a day met its contract, the first on the session given.
unfoldable pub InTurn : Session → List (Made Walked) → Type 0
InTurn before [] = Unit {0}
InTurn before (m ∷ ms) = (walked_of m.walked ≡ walk_by m.call (session_of before)) × InTurn m.walked.session ms

-- The session that the last call left.
unfoldable pub left_after : Session → List (Made Walked) → Session
left_after before [] = before
left_after before (m ∷ ms) = left_after m.walked.session ms

-- The calls as they were asked for, what they were told, and what they drew, in their order.
abbrev pub calls_of : List (Made Walked) → List WalkCall
calls_of ms = map (λ m. m.call) ms

abbrev pub answers_of : List (Made Walked) → List Answer
answers_of ms = map (λ m. m.walked.answer) ms

abbrev pub draws_of : List (Made Walked) → List ℕ
draws_of ms = map (λ m. m.walked.drawn) ms

-- A day, and one of its desks.
pub record DayMeans (before : Session) (ms : List (Made Walked)) (d : ℕ) : Type 0 where
  -- "each desk's draws sum to the loss in its own allowance"
  pub draws_sum : at (left_after before ms).left d + sum (draws_of (made_by d ms)) ≡ at before.left d
  -- "No call by one desk, refused or spent, alters another desk's answer or what it has left": of the day on which the desk's own calls are the only ones, the desk's answers, its draws and
  -- what it has left are the same.
  pub own : (alone : List (Made Walked)) → InTurn before alone → calls_of alone ≡ calls_by d (calls_of ms)
      → (answers_of (made_by d ms) ≡ answers_of alone) × (draws_of (made_by d ms) ≡ draws_of alone) × (at (left_after before ms).left d ≡ at (left_after before alone).left d)
  -- The desk's answers, its draws and what it has left are the same on any day on which the desk makes the same calls from the same allowance, whatever the other desks ask and were given.
  pub only_own : (other : Session) (ns : List (Made Walked)) → InTurn other ns → calls_by d (calls_of ms) ≡ calls_by d (calls_of ns) → at before.left d ≡ at other.left d
      → (answers_of (made_by d ms) ≡ answers_of (made_by d ns)) × (draws_of (made_by d ms) ≡ draws_of (made_by d ns)) × (at (left_after before ms).left d ≡ at (left_after other ns).left d)

-- The promises. Each takes the equation of the call's contract, and says what it means.
pub record Promises : Type 0 where
  pub walk_answers : (s : List ℕ) (i j limit d : ℕ) (before : Session) (walked : Walked)
      → walked_of walked ≡ walk_of s i j limit d (session_of before) → WalkAnswers s i j limit d before walked
  pub walk_means : (s : List ℕ) (i j limit d : ℕ) (before : Session) (walked : Walked)
      → walked_of walked ≡ walk_of s i j limit d (session_of before)
      → d ≤ last_desk → first_of (sheet_checks s) ≡ clear → i < field_count s → j < field_count s → limit ≤ most_rounds → WalkMeans s i j limit d before walked
  pub day_means : (before : Session) (ms : List (Made Walked)) → InTurn before ms → (d : ℕ) → DayMeans before ms d
