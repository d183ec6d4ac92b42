-- Each return gives what the tests on the way leave of the checks.
use native.Mathlib.Omega.{arith}
use mathlib.Core.Bool.{false}
use mathlib.Core.Path.{◌≡◌, sym, ◌∙◌}
use Rattle.model.specs.Limits.{most_kinds}
use Rattle.model.specs.Refusal.{outside}
use Rattle.filer.proofs.Rows.{in_range, square_most, kinds_stop, kind_stops, size_stops, row_clear}
use Rattle.filer.proofs.row.row_check.Goals as goal
use Rattle.filer.proofs.row.row_check.Goals.{Else-outside}

-- n is in range.
kinds_pass : (c : Else-outside) → outside 1 most_kinds c.args.kinds ≡ false
kinds_pass c = sym c.outside.ensures ∙ c.if-outside.false

pub returns-then-outside : goal.returns-then-outside
returns-then-outside c = sym (kinds_stop _ _ _ (sym c.outside.ensures ∙ c.if-outside.true))

pub returns-then-kinds-kind : goal.returns-then-kinds-kind
returns-then-kinds-kind c =
    let args = c.args in
    sym (kind_stops args.kinds args.kind args.table.now (kinds_pass (goal.at.returns-then-kinds-kind c).Else-outside) (omega (arith, c.if-kinds-kind.true)))

pub overflow_mul-kinds : goal.overflow_mul-kinds
overflow_mul-kinds c =
    omega (arith, square_most c.args.kinds (in_range _ (kinds_pass (goal.at.overflow_mul-kinds c).Else-outside)).1)

pub returns-then-table-kinds : goal.returns-then-table-kinds
returns-then-table-kinds c = sym (size_stops _ _ _ (kinds_pass (goal.at.returns-then-table-kinds c).Else-outside) c.if-kinds-kind.false c.if-table-kinds.true)

pub returns : goal.returns
returns c =
    let r = in_range _ (kinds_pass (goal.at.returns c).Else-outside) in
    sym (row_clear _ _ _ (record { some = r.0; few = r.1; kind = c.if-kinds-kind.false; room = c.if-table-kinds.false }))
