-- The norm where each kind's is 1.
use mathlib.Core.Path.{◌∙◌}
use native.Mathlib.Omega.{arith}
use Rattle.model.specs.Field.{at}
use Rattle.weights.proofs.Counts.{tokens_are}
use Rattle.weights.proofs.fields.field_tokens.Goals as goal

pub returns : goal.returns
returns c = c.field_norm.ensures ∙ tokens_are c.args.kinds 32 (at c.args.field) (omega arith)

pub field_norm-requires : goal.field_norm-requires
field_norm-requires c = record { kinds_le_most_kinds = omega arith; field_bound = omega (arith, tokens_are c.args.kinds 32 (at c.args.field) (omega arith)) }
