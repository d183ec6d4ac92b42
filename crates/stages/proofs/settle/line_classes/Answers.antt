-- The forms and the rows tell which lines match.
use mathlib.Core.Path.{◌∙◌}
use Rattle.rows.proofs.StageRows.{base_atoms, lowering_forms, tables_whole, classes_at, bounds_at, bounds_in}
use Rattle.stages.proofs.settle.line_classes.Goals as goal

pub all_forms-requires-clause-atoms : goal.all_forms-requires-clause-atoms
all_forms-requires-clause-atoms c =
    let found = c.requires.by_index in
    base_atoms found.0 c.args.sheet.now c.requires.reads.1 found.1 c.args.rows.now found.2.base_is

pub all_forms-requires-clause-lowering_forms : goal.all_forms-requires-clause-lowering_forms
all_forms-requires-clause-lowering_forms c =
    let found = c.requires.by_index in
    lowering_forms c.requires.lines_are c.requires.reads.1 found.1 found.2

pub new-effects-requires : goal.new-effects-requires
new-effects-requires c =
    let forms = c.all_forms in
    tables_whole c.requires.lines_are c.requires.reads.0 c.requires.rows_len.0 (forms.auto.forms ∙ c.requires.by_index.2.table.long) forms.ensures.small

pub classes-requires-clause-bounds : goal.classes-requires-clause-bounds
classes-requires-clause-bounds c =
    let found = c.requires.by_index in
    rw c.new-effects.ensures
    (bounds_in found.0 c.requires.lines_are c.requires.reads.0 c.requires.reads.1 found.1 found.2.base_is c.all_forms.ensures c.args.bounds.now found.3)

pub returns : goal.returns
returns c =
    let reads = c.requires.reads.0 in
    let ok = c.requires.reads.1 in
    let L = c.requires.lines_are in
    let forms = c.all_forms in
    let result = c.classes.result in
    let told = rw c.new-effects.ensures at c.classes.ensures in
    record { classes = (λ sense q base. (classes_at sense L reads ok q base forms.ensures result told.tells_match, bounds_at sense L reads ok q base forms.ensures result told.class_bounds)); form_table = record { long = forms.auto.forms ∙ c.requires.by_index.2.table.long; small = forms.ensures.small } }
