-- `put_entry`: four spaces, the number, a comma and the line's end.
use mathlib.Core.Path.{refl}
use native.Mathlib.Omega.{arith}
use Rattle.model.specs.Page.{bytes}
use Rattle.text.proofs.Append.{then, reads_as}
use Rattle.entries.specs.Table.{entry_line}
use Rattle.entries.proofs.put_entry.Goals as goal

pub returns : goal.returns
unfolding entry_line bytes
returns c =
    let labelled = c.put_labelled-next in
    reads_as 26 (entry_line c.args.entry) (then labelled.ensures c.put_bytes.ensures) (omega arith) refl
