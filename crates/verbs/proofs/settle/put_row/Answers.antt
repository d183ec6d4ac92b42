-- `put_row`: the row has no more counts than a sheet has kinds.
use mathlib.Core.Path.{sym, ◌∙◌, ap}
use native.Mathlib.Omega.{arith}
use Prim.Native.Nat.{◌≤◌}
use lib.ListN.{length}
use Rattle.model.specs.Limits.{most_kinds}
use Rattle.model.specs.Answer.{row_of}
use Rattle.text.specs.Count.{counts_line}
use Rattle.text.proofs.Append.{reads_as}
use Rattle.verbs.specs.Texts.{most_row}
use Rattle.verbs.proofs.Sizes.{row_most}
use borrow.Author.Rules.{rules}
use Rattle.verbs.proofs.settle.put_row.Goals as goal
use Rattle.verbs.proofs.settle.put_row.Goals.{After-row-part}

-- The row is not too long to be widened.
few : (c : After-row-part) → length c.row-part.result.now ≤ most_kinds
few c = let args = c.args in omega (arith, ap length c.row-part.ensures, row_most args.kinds args.kind args.table.now)

pub widen-counts-requires : goal.widen-counts-requires
widen-counts-requires c = omega (arith, few (goal.at.widen-counts-requires c).After-row-part)

pub slice_bounds-counts-end : goal.slice_bounds-counts-end
slice_bounds-counts-end c = let short = few (goal.at.slice_bounds-counts-end c).After-row-part in search rules

pub slice_bounds-put_counts_line-end : goal.slice_bounds-put_counts_line-end
slice_bounds-put_counts_line-end c = sym (ap length c.widen-counts.ensures)

pub put_counts_line-requires : goal.put_counts_line-requires
put_counts_line-requires c =
    omega (arith, ap length c.widen-counts.ensures, few (goal.at.put_counts_line-requires c).After-row-part, c.requires)

pub returns : goal.returns
returns c =
    let args = c.args in
    reads_as most_row (counts_line (row_of args.kinds args.kind args.table.now)) c.put_counts_line.ensures (omega (arith, ap length c.widen-counts.ensures, few (goal.at.returns c).After-row-part))
    (ap counts_line (c.widen-counts.ensures ∙ c.row-part.ensures))
