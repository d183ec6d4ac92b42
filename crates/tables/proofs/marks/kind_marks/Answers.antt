use native.Mathlib.Omega.{arith}
use Rattle.tables.proofs.Marking.{kinds_marked_none, kinds_marked_more, kinds_marked_all}
use Rattle.tables.proofs.marks.kind_marks.Goals as goal

pub loop-line-init : goal.loop-line-init
loop-line-init c = kinds_marked_none c.requires.marks_value

pub loop-line-preserved : goal.loop-line-preserved
loop-line-preserved c =
    let under = c.requires.line_table.0.kinds_under c.loop-line.line c.loop-line-test.true in
    rw (c.kind_of-start.ensures, c.from.ensures) (kinds_marked_more c.loop-line.invariant c.loop-line-test.true under (λ x. omega (arith, c.type_inv.classes x)))

pub returns : goal.returns
returns c = kinds_marked_all c.loop-line.invariant c.loop-line-test.false
