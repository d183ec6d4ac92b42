-- A field has at most 64 bytes.
use Prim.Native.Nat.{◌*◌, ◌+◌, ◌≤◌}
use Rattle.reached_part.proofs.part.put_fields.Given as goal

abbrev pub invariant-loop-field : goal.invariant-loop-field
invariant-loop-field l = l.end ≤ l.start + 64 * l.field
