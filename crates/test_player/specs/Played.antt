-- How far the player looks, and why it stops. `examine_in` says which pairs are looked at, in which order, and counts them: in the plain sense it is the model's `examine`.
use Rattle.std.specs.Prelude.{Bool, true, false, List, ℕ, zero, suc, ◌+◌, ltb, leb, eqb}
use Rattle.model.specs.Finite.{both}
use Rattle.model.specs.Field.{Field}
use Rattle.model.specs.Card.{Line, Card}
use Rattle.model.specs.Sense.{Sense, plain, finer, total}
use Rattle.model.specs.Walk.{Seen, more, try_challenges}
use Rattle.model.specs.Sheet.{kind_count, field_count, card_of, field_of}
use Rattle.theory.specs.Game as game
use Rattle.theory.specs.Counted.{Counted, holds, fails, spent, cut}
use Rattle.test_player.specs.declared.game.Play.{Play}
use Rattle.test_player.specs.declared.game.Play.TheVariants.{Holds, Fails, Spent}
use Rattle.test_player.specs.declared.game.Tried.{Tried}
use Rattle.test_player.specs.declared.game.Tried.TheVariants.{Parted, Held, OutOfBudget, OutOfBounds}

-- A part of the game, counted: what each case of the enum stands for.
abbrev pub counted_of : Play → Counted
counted_of (Holds left) = holds left
counted_of (Fails left) = fails left
counted_of Spent = spent

-- The side that challenges, by whether it is the second.
abbrev pub challenger : Bool → game.Side
challenger false = game.first
challenger true = game.second

-- The sense that is played, by whether the totals are looked at.
abbrev pub sense_of : Bool → Sense
sense_of false = plain
sense_of true = finer

-- Whether a pair passes what is looked at before any challenge: in the finer sense its totals, in the plain one nothing.
abbrev pub shares_total : Sense → Card → Field → Field → Bool
shares_total plain c a b = true
shares_total finer c a b = eqb (total c a) (total c b)

-- "a challenger also wins as soon as the totals differ": a pair of unequal totals is not looked at further; it counts 1, as every pair does, and fails.
abbrev pub if_shared : Bool → Seen → Seen
if_shared true later = later
if_shared false later = record { holds = false; count = 1 }

-- A pair at a round or more, as in the model's `examine`: it counts 1, then challenges are tried, "lines of the first side in line order, then of the second". `see` looks at the
-- pairs that replies leave: "The first side stays first in every later pair".
abbrev pub both_sides : (Field → Field → Seen) → List Line → Field → Field → Seen
both_sides see xs a b =
    let s = try_challenges see xs a b xs in
    elim s.holds [ true ↦ more (suc s.count) (try_challenges (λ x y. see y x) xs b a xs) | false ↦ more 1 s ]

-- A pair looked at in a sense: the model's `examine`, but that the totals are looked at first, at 0 rounds too. "A pair examined at r rounds counts 1. At 0 rounds it holds. Otherwise a
-- challenge at r rounds is tried against replies at r - 1".
unfoldable pub examine_in : Sense → Card → ℕ → Field → Field → Seen
examine_in m c zero a b = if_shared (shares_total m c a b) (record { holds = true; count = 1 })
examine_in m c (suc r) a b = if_shared (shares_total m c a b) (both_sides (examine_in m c r) c.lines a b)

-- "The first side stays first in every later pair, whoever challenged": the pair of the challenger's field x and the other's field y, at r rounds.
unfoldable pub leaves_in : Sense → game.Side → Card → ℕ → Field → Field → Seen
leaves_in m game.first c r x y = examine_in m c r x y
leaves_in m game.second c r x y = examine_in m c r y x

-- The player's own bounds: the most kinds and the most rounds that it plays.
abbrev pub most_kinds_played : ℕ
most_kinds_played = 32

abbrev pub most_rounds_played : ℕ
most_rounds_played = 200

-- What the number of rounds after r comes to, and what is found after it where the pair holds at it.
abbrev pub next : ℕ → Counted → (ℕ → Tried) → Tried
next r (holds left) later = later left
next r (fails left) later = Parted (r + 1)
next r spent later = OutOfBudget r

-- `many` numbers of rounds, those after r, one after another, with one budget for all.
unfoldable pub tried : Sense → Card → Field → Field → ℕ → ℕ → ℕ → Tried
tried m c a b budget r zero = Held r
tried m c a b budget r (suc many) =
    elim (ltb r most_rounds_played) [
      | true ↦ next r (cut budget (examine_in m c (r + 1) a b)) (λ left. tried m c a b left (r + 1) many)
      | false ↦ OutOfBounds r
    ]

-- "at the start included": a pair of unequal totals at the start is parted at 0 rounds, and takes nothing from the budget.
abbrev pub from_start : Bool → Tried → Tried
from_start true later = later
from_start false later = Parted 0

-- Two fields of a sheet at the start and at 1, 2, .. rounds, up to a limit.
unfoldable pub parting_of : Sense → List ℕ → ℕ → ℕ → ℕ → ℕ → Tried
parting_of m s limit first second budget =
    elim (both (leb (kind_count s) most_kinds_played) (both (ltb first (field_count s)) (ltb second (field_count s)))) [
      | true ↦ from_start (shares_total m (card_of s) (field_of s first) (field_of s second)) (tried m (card_of s) (field_of s first) (field_of s second) budget 0 limit)
      | false ↦ OutOfBounds 0
    ]
