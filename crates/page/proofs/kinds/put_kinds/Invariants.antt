-- `put_kinds`: after so many turns the lines of as many kinds are appended.
use Prim.Native.Nat.{◌*◌}
use Rattle.model.specs.Finite.{concat, list_from}
use Rattle.text.specs.Appended.{Appended}
use Rattle.listing.specs.Line.{kind_at}
use Rattle.page.specs.Lengths.{most_kind}
use Rattle.page.proofs.kinds.put_kinds.Given as goal

abbrev pub invariant-loop-kind : goal.invariant-loop-kind
invariant-loop-kind l = Appended (most_kind * l.kind) l.initial.out l.initial.next (concat (list_from (kind_at l.kinds l.norms l.since l.table) 0 l.kind)) l.out l.next
