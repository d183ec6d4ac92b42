use Rattle.std.proofs.Common.{refl}
use Rattle.rows.proofs.LineForms.{list_formed_more, list_formed}
use Rattle.rows.proofs.line_forms.list_forms.Goals as goal

pub line_form-requires-clause-line_lt_lines : goal.line_form-requires-clause-line_lt_lines
line_form-requires-clause-line_lt_lines c =
    rw (← c.from.ensures) at (c.requires.list_within _ (c.loop-line.line-index, c.loop-line-test.true, refl))

pub loop-line-preserved : goal.loop-line-preserved
loop-line-preserved c =
    let formed = c.line_form in
    list_formed_more c.loop-line.invariant c.loop-line-test.true (rw c.from.ensures at formed.ensures.row_set) formed.auto.forms formed.ensures.stays_under

pub returns : goal.returns
returns c = list_formed c.loop-line.invariant c.loop-line-test.false
