-- What a judgement says of the game.
use mathlib.Core.Bool.{Bool, true, false}
use Rattle.std.proofs.Common.{cond}
use mathlib.Core.List.{List}
use mathlib.Core.Path.{◌≡◌, refl}
use Prim.Native.Nat.{ℕ, ◌≤◌, ◌<◌}
use native.Mathlib.Omega.{arith}
use borrow.Author.Tests.{ltb-false, leb-true, leb-false}
use lib.Dec.{ltb, leb}
use Rattle.model.specs.Sense.{Sense}
use Rattle.model.specs.Sheet.{card_of, field_of}
use Rattle.test_player.specs.declared.game.Tried.{Tried}
use Rattle.test_player.specs.declared.game.Tried.TheVariants.{Parted, Held, OutOfBudget, OutOfBounds}
use Rattle.test_player.specs.Played.{parting_of}
use Rattle.test_player.specs.Meaning.{HoldsAt, Means}
use Rattle.test_player.proofs.Senses.{holds_less}
use Rattle.test_player.proofs.Meaning.{parting_means}
use Rattle.tally.specs.declared.tally.Called.{Called}
use Rattle.tally.specs.declared.tally.Called.TheVariants.{Same, Different}
use Rattle.tally.specs.declared.tally.Judgement.TheVariants.{Agrees, Open, Wrong}
use Rattle.tally.specs.Judged.{held_of, judgement_of}
use Rattle.tally.specs.Meaning.{Right}

module _ (m : Sense) (s : List ℕ) (first second limit : ℕ) where
  -- Fields called different that hold at all rounds up to r.
  held_right : (stage rounds r : ℕ) → ((q : ℕ) → q ≤ r → HoldsAt m s first second q) → Right m s first second limit (Different stage rounds) (held_of r rounds)
  unfolding Right
  held_right stage rounds r h = go (ltb r rounds) refl
    where
      go : (b : Bool) → ltb r rounds ≡ b → Right m s first second limit (Different stage rounds) (cond b Open Wrong)
      go true e = tt
      go false e = h rounds (ltb-false r rounds e)

  -- Fields called different that part at r rounds, and at none below.
  parted_right : (stage rounds r : ℕ) → (¬ HoldsAt m s first second r) → ((q : ℕ) → q < r → HoldsAt m s first second q)
      → Right m s first second limit (Different stage rounds) (cond (leb r rounds) Agrees Wrong)
  unfolding Right
  parted_right stage rounds r n h = go (leb r rounds) refl
    where
      go : (b : Bool) → leb r rounds ≡ b → Right m s first second limit (Different stage rounds) (cond b Agrees Wrong)
      go true e = λ p. n (holds_less (card_of s) m r rounds (field_of s first) (field_of s second) (leb-true r rounds e) p)
      go false e = h rounds (leb-false r rounds e)

  right : (budget : ℕ) (called : Called) (t : Tried) → Means m s first second limit budget t → Right m s first second limit called (judgement_of called t)
  unfolding Means Right
  right budget Same (Parted r) f = (r, f.0, f.1)
  right budget Same (Held r) f = λ q l. f.1 q (omega (arith, f.0))
  right budget Same (OutOfBudget r) f = tt
  right budget Same (OutOfBounds r) f = tt
  right budget (Different stage rounds) (Parted r) f = parted_right stage rounds r f.1 f.2
  right budget (Different stage rounds) (Held r) f = held_right stage rounds r f.1
  right budget (Different stage rounds) (OutOfBudget r) f = held_right stage rounds r f.1
  right budget (Different stage rounds) (OutOfBounds r) f = tt

  -- What the player finds judges every verdict rightly.
  pub judged_right : (budget : ℕ) (called : Called) → Right m s first second limit called (judgement_of called (parting_of m s limit first second budget))
  judged_right budget called = right budget called (parting_of m s limit first second budget) (parting_means m s limit first second budget)
