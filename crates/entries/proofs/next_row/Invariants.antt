-- `next_row`: the entries for fewer than t tokens are new, of every number of kinds whose entries the row began with.
use mathlib.Core.Path.{◌≡◌}
use Prim.Native.Nat.{ℕ}
use Rattle.entries.specs.Table.{entries_of}
use Rattle.entries.proofs.Rows.{Partly}
use Rattle.entries.proofs.next_row.Given as goal

abbrev pub invariant-loop-t : goal.invariant-loop-t
invariant-loop-t l = (k : ℕ) → l.initial.row ≡ entries_of k → Partly k l.t l.row
