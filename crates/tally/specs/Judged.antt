-- What a verdict comes to against what was played, and how it is counted.
use Rattle.std.specs.Prelude.{Bool, true, false, not, cond, List, Option, Some, None, ◌≡◌, ℕ, ◌+◌, ◌≤◌, ◌<◌, min, ltb, leb, eqb}
use Rattle.model.specs.Finite.{both}
use Rattle.model.specs.Sheet.{kind_count, field_count, field_of}
use Rattle.test_player.specs.declared.game.Tried.{Tried}
use Rattle.test_player.specs.declared.game.Tried.TheVariants.{Parted, Held, OutOfBudget, OutOfBounds}
use Rattle.tally.specs.declared.tally.Called.{Called}
use Rattle.tally.specs.declared.tally.Called.TheVariants.{Same, Different}
use Rattle.tally.specs.declared.tally.Judgement.{Judgement}
use Rattle.tally.specs.declared.tally.Judgement.TheVariants.{Agrees, Open, Wrong}
use Rattle.tally.specs.declared.tally.Extent.{Extent}
use Rattle.tally.specs.declared.tally.Extent.TheVariants.{InFull, InPart, NotAtAll}
use Rattle.tally.specs.declared.tally.Played.{Played}
use Rattle.tally.specs.declared.tally.Tally.{Tally}

-- A test that is right about P.
unfoldable pub Tests : Bool → Type 0 → Type 0
Tests true P = P
Tests false P = P → ⊥

-- Two fields of a sheet that the player reads have other counts.
abbrev pub Unlike : List ℕ → ℕ → ℕ → Type 0
Unlike s first second = (kind_count s ≤ 32) × (first < field_count s) × (second < field_count s) × (field_of s first ≡ field_of s second → ⊥)

-- Fields called different that hold at r rounds.
abbrev pub held_of : ℕ → ℕ → Judgement
held_of r rounds = cond (ltb r rounds) Open Wrong

-- "Fields called same hold at every r": they agree where they hold at all rounds asked for, and are open where fewer were played. "Fields called
-- different do not hold at the rounds reported." What lies past the player's bounds leaves every verdict open.
abbrev pub judgement_of : Called → Tried → Judgement
judgement_of Same (Parted r) = Wrong
judgement_of Same (Held r) = Agrees
judgement_of Same (OutOfBudget r) = Open
judgement_of Same (OutOfBounds r) = Open
judgement_of (Different stage rounds) (Parted r) = cond (leb r rounds) Agrees Wrong
judgement_of (Different stage rounds) (Held r) = held_of r rounds
judgement_of (Different stage rounds) (OutOfBudget r) = held_of r rounds
judgement_of (Different stage rounds) (OutOfBounds r) = Open

-- A pair that was stopped after r rounds.
abbrev pub stopped_of : ℕ → Extent
stopped_of r = cond (eqb r 0) NotAtAll InPart

-- In full: to the parting, or to the rounds asked for.
abbrev pub extent_of : Tried → Extent
extent_of (Parted r) = InFull
extent_of (Held r) = InFull
extent_of (OutOfBudget r) = stopped_of r
extent_of (OutOfBounds r) = stopped_of r

-- The stage of a pair called different, at most 1,000; none for same.
abbrev pub stage_of : Called → Option ℕ
stage_of Same = None
stage_of (Different stage rounds) = Some (min stage 1000)

-- One more, up to the greatest number of 64 bits.
abbrev pub next_of : ℕ → ℕ
next_of x = min (x + 1) 18446744073709551615

-- One more where the test is passed.
abbrev pub counted_of : Bool → ℕ → ℕ
counted_of true x = next_of x
counted_of false x = x

-- The judgement leaves the verdict open; it contradicts it.
abbrev pub is_open : Judgement → Bool
is_open Agrees = false
is_open Open = true
is_open Wrong = false

abbrev pub is_wrong : Judgement → Bool
is_wrong Agrees = false
is_wrong Open = false
is_wrong Wrong = true

abbrev pub none : Played
none = record { full = 0; part = 0; none = 0 }

-- One pair more, by how far it was played.
abbrev pub played_of : Extent → Played → Played
played_of InFull p = record { full = next_of p.full; part = p.part; none = p.none }
played_of InPart p = record { full = p.full; part = next_of p.part; none = p.none }
played_of NotAtAll p = record { full = p.full; part = p.part; none = next_of p.none }

abbrev pub empty : Tally
empty = record {
  same = 0;
  unlike = 0;
  different = 0;
  zero = 0;
  one = 0;
  two = 0;
  three = 0;
  later = 0;
  early = 0;
  sames = none;
  differents = none;
  undecided = 0;
  wrong = 0;
  misfiled = 0;
}

-- One pair more: the stage at which it was called different, its judgement, how far it was played, the settled stage, whether its prime forms are equal, and whether its
-- fields look unlike. "prime forms are equal exactly for those called same"
abbrev pub tallied : Tally → Option ℕ → Judgement → Extent → ℕ → Bool → Bool → Tally
tallied t None judged extent settled equal unlike = record {
  same = next_of t.same;
  unlike = counted_of unlike t.unlike;
  different = t.different;
  zero = t.zero;
  one = t.one;
  two = t.two;
  three = t.three;
  later = t.later;
  early = t.early;
  sames = played_of extent t.sames;
  differents = t.differents;
  undecided = counted_of (is_open judged) t.undecided;
  wrong = counted_of (is_wrong judged) t.wrong;
  misfiled = counted_of (not equal) t.misfiled;
}
tallied t (Some stage) judged extent settled equal unlike = record {
  same = t.same;
  unlike = t.unlike;
  different = next_of t.different;
  zero = counted_of (eqb stage 0) t.zero;
  one = counted_of (eqb stage 1) t.one;
  two = counted_of (eqb stage 2) t.two;
  three = counted_of (eqb stage 3) t.three;
  later = counted_of (ltb 3 stage) t.later;
  early = counted_of (both (ltb 0 stage) (ltb stage settled)) t.early;
  sames = t.sames;
  differents = played_of extent t.differents;
  undecided = counted_of (is_open judged) t.undecided;
  wrong = counted_of (is_wrong judged) t.wrong;
  misfiled = counted_of equal t.misfiled;
}
