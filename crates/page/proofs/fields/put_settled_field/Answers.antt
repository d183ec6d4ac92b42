-- `put_settled_field`: the first counts of the buffer that Prime form wrote to.
use mathlib.Core.Path.{sym, ap}
use native.Mathlib.Omega.{arith}
use lib.ListN.{replicate}
use lib.Seq.{length-take-le}
use Rattle.model.specs.Sense.{plain}
use Rattle.sheet.proofs.Laws.{kinds_most}
use Rattle.listing.specs.Line.{field_text, field_at}
use Rattle.page.specs.Lengths.{most_field}
use Rattle.text.proofs.Append.{reads_as}
use Rattle.page.proofs.Pages.{form_part}
use Rattle.page.proofs.fields.put_settled_field.Goals as goal

pub slice_bounds-form-end : goal.slice_bounds-form-end
slice_bounds-form-end c =
    omega (arith, kinds_most c.requires.settlement.accepts.reads)

pub slice_bounds-put_field-end : goal.slice_bounds-put_field-end
slice_bounds-put_field-end c =
    sym (length-take-le c.args.settlement.now.card.kinds c.form_accepted.new.buffer (omega (arith, kinds_most c.requires.settlement.accepts.reads)))

pub put_field-requires : goal.put_field-requires
put_field-requires c =
    let few = kinds_most c.requires.settlement.accepts.reads in
    let l = length-take-le c.args.settlement.now.card.kinds c.form_accepted.new.buffer (omega arith) in
    omega (arith, c.requires.most_field_in_bounds)

pub returns : goal.returns
returns c =
    let form-settled = c.form_accepted in
    let form = form-settled.new.buffer in
    let few = kinds_most c.requires.settlement.accepts.reads in
    let l = length-take-le c.args.settlement.now.card.kinds form (omega arith) in
    let part = form_part c.requires.settlement.accepts c.args.field (replicate 32 0) form c.requires.field_lt_fields (omega arith) (form-settled.ensures plain c.requires.settlement).1 in
    reads_as most_field (field_at c.args.sheet.now c.args.field) c.put_field.ensures (omega arith)
    (ap (field_text c.args.field) part)
