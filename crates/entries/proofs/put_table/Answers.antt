-- `put_table`: three texts, one after the other.
use mathlib.Core.Path.{refl}
use native.Mathlib.Omega.{arith}
use Rattle.model.specs.Page.{bytes}
use Rattle.text.proofs.Append.{then, reads_as}
use Rattle.entries.specs.Table.{table_text}
use Rattle.entries.proofs.put_table.Goals as goal

pub returns : goal.returns
unfolding table_text bytes
returns c =
    reads_as 15000 table_text (then (then c.put_bytes-start.ensures c.put_rows-end.ensures) c.put_bytes.ensures) (omega arith) refl
