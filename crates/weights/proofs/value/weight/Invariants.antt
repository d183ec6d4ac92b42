-- The sum is that over the kinds passed.
use mathlib.Core.Path.{◌≡◌}
use Rattle.model.specs.Field.{weigh, at}
use Rattle.weights.proofs.value.weight.Given as goal

abbrev pub invariant-loop-i : goal.invariant-loop-i
invariant-loop-i l = l.sum ≡ weigh l.i (at l.values) (at l.counts)
