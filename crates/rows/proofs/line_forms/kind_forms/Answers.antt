-- The kind's own lines are listed, and their forms are written.
use Rattle.std.proofs.Common.{arith, ◌∙◌}
use Rattle.sheet.proofs.Laws.{lines_are}
use Rattle.rows.proofs.LineForms.{list_kind}
use Rattle.rows.proofs.line_forms.kind_forms.Goals as goal

pub list_forms-requires-clause-list_within : goal.list_forms-requires-clause-list_within
list_forms-requires-clause-list_within c = λ j a. omega (arith, ((c.usable_lines-own.ensures.1.entries j).0 a).0.0, c.requires.line_table.1)

pub returns : goal.returns
returns c =
    let own = rw c.one_token-token.ensures at c.usable_lines-own.ensures.1 in
    record { own = (c.usable_lines-own.ensures.0, own); kind_forms = list_kind (c.requires.line_table.1 ∙ lines_are c.requires.reads) own c.list_forms.ensures }
