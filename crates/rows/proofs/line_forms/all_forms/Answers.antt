use Rattle.std.proofs.Common.{arith}
use Rattle.sheet.proofs.Laws.{lines_are}
use Rattle.rows.proofs.LineForms.{formed_skip, formed_more, all_formed}
use Rattle.rows.proofs.line_forms.all_forms.Goals as goal
use Rattle.rows.proofs.line_forms.all_forms.Goals.{then-not-lowers, else-not-lowers}

pub loop-line-preserved : goal.loop-line-preserved
loop-line-preserved c =
    let h = c.loop-line.invariant in
    elim c.if-not-lowers.branch [
      | then-not-lowers w ↦ rw w.forms-is (formed_more h w.line_form.ensures.row_set w.line_form.auto.forms w.line_form.ensures.stays_under)
      | else-not-lowers w ↦ rw w.forms-is (formed_skip h (omega (arith, lines_are c.requires.reads)) (c.lowers.ensures.0 w.if-not-lowers.false))
    ]

pub returns : goal.returns
returns c = all_formed c.requires.reads c.loop-line-test.false c.loop-line.invariant
