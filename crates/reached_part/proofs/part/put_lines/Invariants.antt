-- No more lines are kept than passed.
use Prim.Native.Nat.{◌≤◌}
use Rattle.reached_part.proofs.part.put_lines.Given as goal

abbrev pub invariant-loop-line : goal.invariant-loop-line
invariant-loop-line l = l.kept ≤ l.line
