-- The counts of the kinds below the one reached are read.
use Prim.Native.Nat.{◌+◌, ◌*◌}
use mathlib.Core.Path.{◌≡◌}
use Rattle.model.specs.Finite.{list_from}
use Rattle.model.specs.Limits.{most_kinds}
use Rattle.model.specs.Sheet.{u16_at, counts}
use Rattle.sheet.proofs.reader.Card.field.Given as goal

abbrev pub invariant-loop-kind : goal.invariant-loop-kind
invariant-loop-kind l = l.counts ≡ list_from (counts l.kind (λ q. u16_at l.sheet (l.start + 2 * q))) 0 most_kinds
