-- `put_fields`: after i turns the lines of the first i fields are appended.
use Prim.Native.Nat.{◌*◌}
use Rattle.model.specs.Finite.{concat, list_from}
use Rattle.text.specs.Appended.{Appended}
use Rattle.listing.specs.Line.{field_at}
use Rattle.page.specs.Lengths.{most_field}
use Rattle.page.proofs.fields.put_fields.Given as goal

abbrev pub invariant-loop-i : goal.invariant-loop-i
invariant-loop-i l = Appended (most_field * l.i) l.initial.out l.initial.next (concat (list_from (field_at l.sheet) 0 l.i)) l.out l.next
