-- What a judgement says of the game.
use Rattle.std.specs.Prelude.{List, ℕ, ◌≤◌}
use Rattle.model.specs.Sense.{Sense}
use Rattle.test_player.specs.Meaning.{HoldsAt}
use Rattle.tally.specs.declared.tally.Called.{Called}
use Rattle.tally.specs.declared.tally.Called.TheVariants.{Same, Different}
use Rattle.tally.specs.declared.tally.Judgement.{Judgement}
use Rattle.tally.specs.declared.tally.Judgement.TheVariants.{Agrees, Open, Wrong}

module _ (m : Sense) (s : List ℕ) (first second limit : ℕ) where
  -- What it says of a verdict on two fields in a sense, asked to be played to a limit, that the game agrees with it, or that it contradicts it. A verdict that is
  -- left open is neither.
  unfoldable pub Right : Called → Judgement → Type 0
  Right Same Agrees = (r : ℕ) → r ≤ limit → HoldsAt m s first second r
  Right Same Wrong = (r : ℕ) × (r ≤ limit) × (¬ HoldsAt m s first second r)
  Right (Different stage rounds) Agrees = ¬ HoldsAt m s first second rounds
  Right (Different stage rounds) Wrong = HoldsAt m s first second rounds
  Right called Open = Unit {0}
