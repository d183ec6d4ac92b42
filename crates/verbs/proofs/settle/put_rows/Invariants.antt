-- After so many turns the lines of as many rows are appended.
use mathlib.Core.List.{List}
use Prim.Native.Nat.{ℕ, ◌*◌}
use Rattle.model.specs.Finite.{concat, list_from}
use Rattle.model.specs.Answer.{row_of}
use Rattle.text.specs.Appended.{Appended}
use Rattle.text.specs.Count.{counts_line}
use Rattle.verbs.specs.Texts.{most_row}
use Rattle.verbs.proofs.settle.put_rows.Given as goal

-- the line of a row
abbrev pub row_line : List ℕ → ℕ → ℕ → List ℕ
row_line table kinds kind = counts_line (row_of kinds kind table)

abbrev pub invariant-loop-kind : goal.invariant-loop-kind
invariant-loop-kind l = Appended (most_row * l.kind) l.initial.out l.initial.next (concat (list_from (row_line l.table l.kinds) 0 l.kind)) l.out l.next
