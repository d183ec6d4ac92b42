-- The sum is that over the kinds passed.
use mathlib.Core.Path.{◌≡◌}
use Rattle.model.specs.Field.{weigh, at}
use Rattle.weights.proofs.fields.field_norm.Given as goal

abbrev pub invariant-loop-kind : goal.invariant-loop-kind
invariant-loop-kind l = l.sum ≡ weigh l.kind (at l.norms) (at l.field)
