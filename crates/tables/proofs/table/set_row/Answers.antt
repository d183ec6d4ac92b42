use mathlib.Core.Path.{◌≡◌}
use native.Mathlib.Omega.{arith}
use Prim.Native.Nat.{◌*◌, ◌+◌, ◌-◌}
use Rattle.std.proofs.Common.{append_assoc}
use lib.Seq.{drop-drop}
use Rattle.tables.specs.Table.{with_row}
use Rattle.tables.proofs.table.set_row.Goals as goal

pub returns : goal.returns
unfolding with_row
returns c =
    let long : ◌≡◌ (c.args.kind * 32 + 32 - c.args.kind * 32) 32 = omega arith in
    rw (c.copy_from_slice.ensures.after, long, c.requires.1, append_assoc, drop-drop)
