-- What the player's answers say of the game.
use Rattle.std.specs.Prelude.{true, false, List, ◌⊎◌, ◌≡◌, ℕ, zero, suc, ◌+◌, ◌≤◌, ◌<◌}
use Rattle.model.specs.Field.{Field}
use Rattle.model.specs.Card.{Card}
use Rattle.model.specs.Sense.{Sense}
use Rattle.model.specs.Sheet.{kind_count, field_count, card_of, field_of}
use Rattle.theory.specs.FinerGame.{HoldsIn}
use Rattle.test_player.specs.declared.game.Tried.{Tried}
use Rattle.test_player.specs.declared.game.Tried.TheVariants.{Parted, Held, OutOfBudget, OutOfBounds}
use Rattle.test_player.specs.Played.{most_kinds_played, most_rounds_played, examine_in}

-- "the number of pairs examined, summed over the numbers of rounds tried": `many` numbers of rounds from r up, to the first that parts the pair. In the plain sense it is the count of
-- the model's `walk`.
unfoldable pub pairs_in : Sense → Card → Field → Field → ℕ → ℕ → ℕ
pairs_in m c a b r zero = 0
pairs_in m c a b r (suc many) =
    let s = examine_in m c r a b in
    elim s.holds [ true ↦ s.count + pairs_in m c a b (suc r) many | false ↦ s.count ]

-- A bound of the player: the kinds, or the numbers of the fields. Nothing is looked at of fields past it.
abbrev pub Unread : List ℕ → ℕ → ℕ → Type 0
Unread s first second = (most_kinds_played < kind_count s) ⊎ ((field_count s ≤ first) ⊎ (field_count s ≤ second))

module _ (m : Sense) (s : List ℕ) (first second : ℕ) where
  -- The two fields hold at r rounds, in the sense that is played.
  abbrev pub HoldsAt : ℕ → Type 0
  HoldsAt r = HoldsIn m (card_of s) r (field_of s first) (field_of s second)

  -- The pairs looked at for the numbers of rounds 1, 2, .., r.
  abbrev pub pairs_to : ℕ → ℕ
  pairs_to r = pairs_in m (card_of s) (field_of s first) (field_of s second) 1 r

  -- How far the player looked and why it stopped, where it was asked for so many rounds and given so many pairs. "A pair is parted within r rounds
  -- when it does not hold at r." In the finer sense it may be parted within 0 rounds, so that nothing is said of what was not read.
  unfoldable pub Means : ℕ → ℕ → Tried → Type 0
  Means limit budget (Parted r) = (r ≤ limit) × (¬ HoldsAt r) × ((q : ℕ) → q < r → HoldsAt q) × (pairs_to r ≤ budget)
  Means limit budget (Held r) = (r ≡ limit) × ((q : ℕ) → q ≤ r → HoldsAt q) × (pairs_to r ≤ budget)
  Means limit budget (OutOfBudget r) = (r < limit) × ((q : ℕ) → q ≤ r → HoldsAt q) × (budget < pairs_to (r + 1))
  Means limit budget (OutOfBounds r) = (r ≤ limit) × (((r ≡ 0) × Unread s first second) ⊎ ((most_rounds_played ≤ r) × ((q : ℕ) → q ≤ r → HoldsAt q)))
