-- `call`: by the verb.
use mathlib.Core.Path.{sym, ap}
use Rattle.queries.specs.Query.{verb_told}
use Rattle.replies.proofs.Replies.{told_as}
use Rattle.queries.proofs.query.call.Goals as goal

pub returns-in-Settle : goal.returns-in-Settle
unfolding verb_told
returns-in-Settle c =
    told_as _ c.settle.ensures (ap (λ v. verb_told c.args.sheet.now v c.args.numbers.now) (sym c.in-Settle.is))

pub returns-in-Row : goal.returns-in-Row
unfolding verb_told
returns-in-Row c =
    told_as _ c.settled_row.ensures (ap (λ v. verb_told c.args.sheet.now v c.args.numbers.now) (sym c.in-Row.is))

pub returns-in-Compare : goal.returns-in-Compare
unfolding verb_told
returns-in-Compare c =
    told_as _ c.compare_fields.ensures (ap (λ v. verb_told c.args.sheet.now v c.args.numbers.now) (sym c.in-Compare.is))

pub returns-in-Form : goal.returns-in-Form
unfolding verb_told
returns-in-Form c =
    told_as _ c.field_form.ensures (ap (λ v. verb_told c.args.sheet.now v c.args.numbers.now) (sym c.in-Form.is))

pub returns-in-Walk : goal.returns-in-Walk
unfolding verb_told
returns-in-Walk c =
    told_as _ c.walk_fields.ensures (ap (λ v. verb_told c.args.sheet.now v c.args.numbers.now) (sym c.in-Walk.is))

pub returns-in-Number : goal.returns-in-Number
unfolding verb_told
returns-in-Number c =
    told_as _ c.field_number.ensures (ap (λ v. verb_told c.args.sheet.now v c.args.numbers.now) (sym c.in-Number.is))

pub returns-in-Field : goal.returns-in-Field
unfolding verb_told
returns-in-Field c =
    told_as _ c.numbered_field.ensures (ap (λ v. verb_told c.args.sheet.now v c.args.numbers.now) (sym c.in-Field.is))

pub returns-in-Squads : goal.returns-in-Squads
unfolding verb_told
returns-in-Squads c =
    told_as _ c.count_squads.ensures (ap (λ v. verb_told c.args.sheet.now v c.args.numbers.now) (sym c.in-Squads.is))

pub returns-in-Finer : goal.returns-in-Finer
unfolding verb_told
returns-in-Finer c =
    told_as _ c.finer_compare_fields.ensures (ap (λ v. verb_told c.args.sheet.now v c.args.numbers.now) (sym c.in-Finer.is))

pub returns-in-FinerForm : goal.returns-in-FinerForm
unfolding verb_told
returns-in-FinerForm c =
    told_as _ c.finer_field_form.ensures (ap (λ v. verb_told c.args.sheet.now v c.args.numbers.now) (sym c.in-FinerForm.is))

pub returns-in-Common : goal.returns-in-Common
unfolding verb_told
returns-in-Common c =
    told_as _ c.common_answers.ensures (ap (λ v. verb_told c.args.sheet.now v c.args.numbers.now) (sym c.in-Common.is))
