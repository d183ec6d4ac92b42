-- From stage to stage down the forms are those of that stage, and differ.
use mathlib.Core.List.{List}
use mathlib.Core.Path.{◌≡◌}
use Prim.Native.Nat.{ℕ, ◌≤◌}
use lib.ListN.{length}
use Rattle.model.specs.Limits.{most_kinds}
use Rattle.model.specs.Sense.{Sense}
use Rattle.stages.specs.Parting.{FormsPart}
use Rattle.stages.proofs.parting.parting_form.Given as goal

abbrev pub invariant-loop-t : goal.invariant-loop-t
invariant-loop-t l =
    (1 ≤ l.t) × (l.t ≤ l.initial.t) × (length l.one ≡ most_kinds) × (length l.other ≡ most_kinds) × ((sense : Sense) (s : List ℕ) (i j : ℕ) → FormsPart sense s l.initial.t i j l.settled.base.since l.settled.before l.initial.one l.initial.other → FormsPart sense s l.t i j l.settled.base.since l.settled.before l.one l.other)

abbrev pub decreases-loop-t : goal.decreases-loop-t
decreases-loop-t l = l.t
