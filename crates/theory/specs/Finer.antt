-- What is claimed of the finer comparison (request 7 of document 02) beside the demands and the meanings, which speak of each sense.
use Rattle.std.specs.Prelude.{List, ◌≡◌, ℕ, suc}
use Rattle.model.specs.Finite.{list_from, sum}
use Rattle.model.specs.Field.{Field, unit}
use Rattle.model.specs.Card.{Card, Reached}
use Rattle.model.specs.Sense.{finer, total}
use Rattle.model.specs.Base.{stage_row_in}
use Rattle.model.specs.Sheet.{card_of}
use Rattle.model.specs.Refusal.{Accepted}
use Rattle.model.specs.Answer.{given, same, compare_of, finer_compare_of}
use Rattle.theory.specs.Game.{Challenge, Strategy}
use Rattle.theory.specs.FinerGame.{FinerHolds, FinerParting, FinerParted, FinerAnswered}

-- Of every card.
pub record Totals (c : Card) : Type 1 where
  -- "how many tokens are on course": the n counts, added.
  pub adds : (a : Field) → total c a ≡ sum (list_from a 0 c.kinds)
  -- "a challenger also wins as soon as the totals differ, at the start included": whatever the rounds, the challenges and the strategy.
  pub parted : (r : ℕ) (a b : Field) → ¬ (total c a ≡ total c b) → FinerParted c r a b
  pub parting : (a b : Field) → ¬ (total c a ≡ total c b) → FinerParting c a b
  pub held : (r : ℕ) (a b : Field) → ¬ (total c a ≡ total c b) → ¬ FinerHolds c r a b
  pub answered : (f : Strategy c) (K : Field → Field → Type 0) (past hs : List (Challenge c)) (a b : Field)
      → ¬ (total c a ≡ total c b) → ¬ FinerAnswered c f K past hs a b

-- Of every sheet.
pub record Finer (s : List ℕ) : Type 0 where
  -- "and finer same always implies same."
  pub finer_same : (i j : ℕ) → finer_compare_of s i j ≡ given same → compare_of s i j ≡ given same
  -- A kind and its row have equal totals, so that every row is one token, from stage 1 up.
  pub one_token : Accepted s → (q k : ℕ) → Reached (card_of s) k → (j : ℕ) × (stage_row_in finer (card_of s) (suc q) k ≡ unit j)
