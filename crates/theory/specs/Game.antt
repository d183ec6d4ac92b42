-- The round game, from the card alone. A pair is its first side a and its second side b.
use Rattle.std.specs.Prelude.{List, [], ◌∷◌, ◌⊎◌, ◌≡◌, ℕ, zero, suc, ◌<◌}
use Rattle.model.specs.Field.{Field}
use Rattle.model.specs.Card.{Line, Card, On, fire}
use Rattle.theory.specs.Expansion.{Expands, flip}

pub data Side : Type 0 where
  first second : Side

-- The field of a side.
abbrev pub side_of : Side → Field → Field → Field
side_of first a b = a
side_of second a b = b

-- "A challenge is a side and a line that this side may use." (Whether it may, the fields of the moment say.)
pub record Challenge (c : Card) : Type 0 where
  pub side : Side
  pub line : Line
  pub on : On c line

module _ (c : Card) where
  -- "A pair holds at 0 rounds. It holds at r + 1 rounds just when every challenge has a reply that leaves a pair which holds at r."
  unfoldable pub Holds : ℕ → Field → Field → Type 0
  Holds zero a b = Unit {0}
  Holds (suc r) a b = Expands (On c) (Holds r) a b

  -- "A reply is a line of the same code that the other side may use."
  abbrev pub Replies : Line → Line → Field → Type 0
  Replies l m b = On c m × (0 < b m.kind) × (m.code ≡ l.code)

  -- A line of the first side to which every reply leaves a pair in R.
  abbrev pub Beats : (Field → Field → Type 0) → Field → Field → Type 0
  Beats R a b = (l : Line) × On c l × (0 < a l.kind) × ((m : Line) → Replies l m b → R (fire l a) (fire m b))

  -- A choice of challenges, each made in view of the replies so far, that parts the pair whatever the replies: a challenge, and such a choice
  -- for the pair that each reply to it leaves. No bound is set on the rounds that it takes.
  pub data Parting : Field → Field → Type 0 where
    by_first : {a b : Field} (l : Line) → On c l → 0 < a l.kind → ((m : Line) → Replies l m b → Parting (fire l a) (fire m b)) → Parting a b
    by_second : {a b : Field} (l : Line) → On c l → 0 < b l.kind → ((m : Line) → Replies l m a → Parting (fire m a) (fire l b)) → Parting a b

  -- A choice of challenges, each made in view of the replies so far, that parts the pair within r rounds whatever the replies. "A challenge without a reply ends the game and
  -- counts as its last round."
  unfoldable pub Parted : ℕ → Field → Field → Type 0
  Parted zero a b = ⊥
  Parted (suc r) a b = Beats (Parted r) a b ⊎ Beats (flip (Parted r)) b a

  -- A way to reply that does not know what is still to come: from the challenges so far, the last one first, and the one to answer.
  abbrev pub Strategy : Type 0
  Strategy = List (Challenge c) → Challenge c → Line

  -- The line l of side a is answered by m, and K holds of the pair left; "a line that its side has no token for .. is passed over".
  abbrev pub Round : Line → Line → Field → Field → (Field → Field → Type 0) → Type 0
  Round l m a b K = (0 < a l.kind → Replies l m b × K (fire l a) (fire m b)) × (¬ (0 < a l.kind) → K a b)

  abbrev pub Turn : Side → Line → Line → Field → Field → (Field → Field → Type 0) → Type 0
  Turn first l m a b K = Round l m a b K
  Turn second l m a b K = Round l m b a (flip K)

  -- Every challenge of the list is answered by the strategy, and the pair left at the end is in K.
  unfoldable pub Answered : Strategy → (Field → Field → Type 0) → List (Challenge c) → List (Challenge c) → Field → Field → Type 0
  Answered f K past [] a b = K a b
  Answered f K past (h ∷ hs) a b = Turn h.side h.line (f past h) a b (Answered f K (h ∷ past) hs)
