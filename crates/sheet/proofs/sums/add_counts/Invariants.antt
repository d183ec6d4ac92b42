-- The first k of the counts are added.
use mathlib.Core.Path.{◌≡◌}
use lib.ListN.{length}
use Rattle.sheet.proofs.Plus.{plus_first}
use Rattle.sheet.proofs.sums.add_counts.Given as goal

abbrev pub invariant-loop-k : goal.invariant-loop-k
invariant-loop-k l = (length l.field ≡ length l.initial.field) × (l.field ≡ plus_first l.k l.initial.field l.counts)
