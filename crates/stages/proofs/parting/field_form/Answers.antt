-- The kinds of the card are a part of the field's counts.
use borrow.Author.Rules.{rules}
use mathlib.Core.Path.{◌≡◌, sym, ◌∙◌}
use native.Mathlib.Omega.{arith}
use lib.ListN.{length}
use Rattle.sheet.proofs.Laws.{kinds_most}
use Rattle.tables.proofs.Tables.{at_kind}
use Rattle.stages.proofs.Fields.{part_long, part_form}
use Rattle.stages.proofs.parting.field_form.Goals as goal

pub slice_bounds-field-end : goal.slice_bounds-field-end
slice_bounds-field-end c =
    let pre = c.requires.reads in
    let e : length c.field-field.result ≡ 32 = search rules in
    omega (arith, kinds_most pre)

pub slice_bounds-form_of_field-end : goal.slice_bounds-form_of_field-end
slice_bounds-form_of_field-end c =
    sym (part_long c.requires.reads c.args.field _ c.field-field.ensures)

pub form_of_field-requires-clause-by_index : goal.form_of_field-requires-clause-by_index
form_of_field-requires-clause-by_index c =
    λ j. omega (arith, at_kind (part_form c.requires.reads c.args.field c.field-field.result c.field-field.ensures c.args.rows.now) j, c.requires.rows_len.1 c.args.field j)

pub returns : goal.returns
returns c =
    let field = c.field-field in
    c.form_of_field.ensures ∙ part_form c.requires.reads c.args.field _ field.ensures c.args.rows.now
