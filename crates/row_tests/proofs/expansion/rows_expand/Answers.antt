use borrow.Author.Count.{below_more}
use Rattle.std.proofs.Common.{arith}
use Rattle.tables.proofs.Tables.{tells_same, tells_other, told_not}
use Rattle.row_tests.proofs.expansion.rows_expand.Goals as goal

pub returns-then-not-row_expands : goal.returns-then-not-row_expands
returns-then-not-row_expands c =
    tells_other (λ f. told_not (c.row_expands.ensures _ _ c.kind_marks.ensures) c.if-not-row_expands.true (f c.loop-kind.kind c.loop-kind-test.true))

pub loop-kind-preserved : goal.loop-kind-preserved
loop-kind-preserved c =
    below_more _ _ c.loop-kind.invariant ((c.row_expands.ensures _ _ c.kind_marks.ensures).0 c.if-not-row_expands.false)

pub returns : goal.returns
returns c = tells_same (λ k h. c.loop-kind.invariant k (omega arith))
