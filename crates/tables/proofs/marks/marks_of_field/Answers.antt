use native.Mathlib.Omega.{arith}
use Rattle.tables.proofs.Marking.{field_marked_none, field_marked_all, marks_long}
use Rattle.tables.proofs.marks.marks_of_field.Goals as goal

pub loop-kind-init : goal.loop-kind-init
loop-kind-init c = field_marked_none c.requires.1

pub add_marks-requires : goal.add_marks-requires
add_marks-requires c =
    let p = c.loop-kind in
    omega (arith, p.invariant.size, marks_long c.args.marks.now p.kind (omega (arith, c.requires.0, c.requires.1, c.loop-kind-test.true)) c.marks_of_kind.ensures)

pub returns : goal.returns
returns c = field_marked_all c.loop-kind.invariant c.loop-kind-test.false
