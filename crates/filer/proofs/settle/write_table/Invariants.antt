-- After so many turns as many rows are stored.
use Prim.Native.Nat.{◌*◌}
use Rattle.filer.specs.Settlement.{table_in}
use Rattle.theory.proofs.Writing.{Begun}
use Rattle.filer.proofs.settle.write_table.Given as goal

abbrev pub invariant-loop-row : goal.invariant-loop-row
invariant-loop-row l = Begun (table_in l.kinds l.rows) l.initial.table (l.row * l.kinds) l.table
