-- Each kind passed has a value or no tokens, and the sum is that over the kinds passed; it fits, whatever bytes the counts are.
use mathlib.Core.Path.{◌≡◌}
use Rattle.model.specs.Field.{weigh, at}
use Rattle.theory.proofs.Sweeps.{Ready}
use Rattle.weights.proofs.value.read_value.Given as goal

abbrev pub invariant-loop-i : goal.invariant-loop-i
invariant-loop-i l = Ready l.i (at l.values) (at l.counts) × (l.sum ≡ weigh l.i (at l.values) (at l.counts))
