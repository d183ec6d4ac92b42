-- From the settled stage down: the rows and the form are those of the stage, and the counts of the stages from it up are set.
use mathlib.Core.Path.{◌≡◌}
use Prim.Native.Nat.{ℕ, ◌≤◌}
use lib.ListN.{length}
use mathlib.Core.List.{List}
use Rattle.model.specs.Limits.{most_kinds}
use Rattle.frequencies.specs.Related.{RowsAt}
use Rattle.frequencies.proofs.Counted.{CountedTo}
use Rattle.frequencies.proofs.related.count_forms.Given as goal

abbrev pub invariant-loop-t : goal.invariant-loop-t
invariant-loop-t l = (1 ≤ l.t) × (l.t ≤ l.settled.stage) × (length l.table ≡ 1024) × (length l.given ≡ most_kinds) × (length l.related ≡ 33) × ((s : List ℕ) (i : ℕ) → RowsAt s i l.settled.stage l.kinds l.settled.base.since l.settled.before l.initial.table l.initial.given → RowsAt s i l.t l.kinds l.settled.base.since l.settled.before l.table l.given × CountedTo s i l.size l.settled.stage l.related l.t)
