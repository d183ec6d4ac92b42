-- The kinds below the one reached that have a norm are stored.
use mathlib.Core.Path.{◌≡◌}
use Prim.Native.Nat.{◌≤◌}
use lib.ListN.{length}
use Rattle.numbering.proofs.Listed.{Stored}
use Rattle.numbering.proofs.kinds.listed_kinds.Given as goal

abbrev pub invariant-loop-kind : goal.invariant-loop-kind
invariant-loop-kind l = (l.count ≤ l.kind) × (length l.store ≡ 32) × Stored l.norms l.kind l.store l.count
