-- The finer round game, of request 7 of document 02: document 01's, but that "a challenger also wins as soon as the totals differ, at the start included".
use Rattle.std.specs.Prelude.{List, [], ◌∷◌, ◌⊎◌, ◌≡◌, ℕ, zero, suc, ◌<◌}
use Rattle.model.specs.Field.{Field}
use Rattle.model.specs.Card.{Line, Card, On, fire}
use Rattle.theory.specs.Expansion.{Expands, flip}
use Rattle.model.specs.Sense.{Sense, plain, finer, total}
use Rattle.theory.specs.Game.{Challenge, Holds, Replies, Beats, Parting, Parted, Strategy, Turn, Answered}

module _ (c : Card) where
  -- The totals of the two sides are equal.
  abbrev pub EqualTotal : Field → Field → Type 0
  EqualTotal a b = total c a ≡ total c b

  -- "A pair holds at 0 rounds", if the totals are equal. "It holds at r + 1 rounds just when" they are equal and "every challenge has a reply that leaves a
  -- pair which holds at r."
  unfoldable pub FinerHolds : ℕ → Field → Field → Type 0
  FinerHolds zero a b = EqualTotal a b
  FinerHolds (suc r) a b = EqualTotal a b × Expands (On c) (FinerHolds r) a b

  -- A choice of challenges, each made in view of the replies so far, that parts the pair whatever the replies; where the totals differ none is needed.
  pub data FinerParting : Field → Field → Type 0 where
    at_once : {a b : Field} → ¬ EqualTotal a b → FinerParting a b
    by_first : {a b : Field} (l : Line) → On c l → 0 < a l.kind → ((m : Line) → Replies c l m b → FinerParting (fire l a) (fire m b)) → FinerParting a b
    by_second : {a b : Field} (l : Line) → On c l → 0 < b l.kind → ((m : Line) → Replies c l m a → FinerParting (fire m a) (fire l b)) → FinerParting a b

  -- The same within r rounds.
  unfoldable pub FinerParted : ℕ → Field → Field → Type 0
  FinerParted zero a b = ¬ EqualTotal a b
  FinerParted (suc r) a b = (¬ EqualTotal a b) ⊎ (Beats c (FinerParted r) a b ⊎ Beats c (flip (FinerParted r)) b a)

  -- Every challenge of the list is answered by the strategy, the totals are equal before and after each, and the pair left at the end is in K.
  unfoldable pub FinerAnswered : Strategy c → (Field → Field → Type 0) → List (Challenge c) → List (Challenge c) → Field → Field → Type 0
  FinerAnswered f K past [] a b = EqualTotal a b × K a b
  FinerAnswered f K past (h ∷ hs) a b = EqualTotal a b × Turn c h.side h.line (f past h) a b (FinerAnswered f K (h ∷ past) hs)

-- The game of a sense: 01's, or the finer one. Whether a pair holds at r rounds.
abbrev pub HoldsIn : Sense → Card → ℕ → Field → Field → Type 0
HoldsIn plain = Holds
HoldsIn finer = FinerHolds

-- "hold at every r"
abbrev pub AlwaysIn : Sense → Card → Field → Field → Type 0
AlwaysIn m c a b = (r : ℕ) → HoldsIn m c r a b

-- A choice of challenges that parts the pair, and one that does so within r rounds.
abbrev pub PartingIn : Sense → Card → Field → Field → Type 0
PartingIn plain c a b = Parting c a b
PartingIn finer c a b = FinerParting c a b

abbrev pub PartedIn : Sense → Card → ℕ → Field → Field → Type 0
PartedIn plain = Parted
PartedIn finer = FinerParted

-- Every challenge of a list is answered by a strategy.
abbrev pub AnsweredIn : Sense → (c : Card) → Strategy c → (Field → Field → Type 0) → List (Challenge c) → List (Challenge c) → Field → Field → Type 0
AnsweredIn plain = Answered
AnsweredIn finer = FinerAnswered
