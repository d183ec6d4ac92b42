-- The tokens of the kinds below this one are added up; a kind has fewer than a million.
use mathlib.Core.Path.{◌≡◌}
use Prim.Native.Nat.{◌*◌, ◌≤◌}
use Rattle.model.specs.Field as model
use Rattle.model.specs.Field.{at}
use Rattle.test_player.proofs.totals.total.Given as goal

abbrev pub invariant-loop-kind : goal.invariant-loop-kind
invariant-loop-kind l = (l.tokens ≡ model.tokens l.kind (at l.field)) × (l.tokens ≤ 1000000 * l.kind)
