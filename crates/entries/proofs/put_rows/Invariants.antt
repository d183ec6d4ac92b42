-- `put_rows`: the row is that of as many kinds as there were turns, and the rows from 1 kind to so many stand after the first.
use mathlib.Core.Path.{◌≡◌}
use Prim.Native.Nat.{◌*◌}
use Rattle.model.specs.Finite.{concat, list_from}
use Rattle.text.specs.Appended.{Appended}
use Rattle.entries.specs.Table.{entries_of, row_text}
use Rattle.entries.proofs.put_rows.Given as goal

abbrev pub invariant-loop : goal.invariant-loop
invariant-loop l =
    (l.row ≡ entries_of l.counter) × Appended (442 * l.counter) l.initial.out l.initial.next (concat (list_from row_text 1 l.counter)) l.out l.next
