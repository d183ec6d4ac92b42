-- `put_row`: after so many turns the lines of so many entries are appended.
use Prim.Native.Nat.{◌*◌}
use Rattle.model.specs.Finite.{concat, list_from}
use Rattle.text.specs.Appended.{Appended}
use Rattle.entries.proofs.Lines.{line_at}
use Rattle.entries.proofs.put_row.Given as goal

abbrev pub invariant-loop-entry : goal.invariant-loop-entry
invariant-loop-entry l = Appended (26 * l.entry-index) l.initial.out l.initial.next (concat (list_from (line_at l.row) 0 l.entry-index)) l.out l.next
