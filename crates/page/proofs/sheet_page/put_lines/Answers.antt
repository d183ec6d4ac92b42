-- `put_lines`: head, kinds, fields and pairs, one after the other, are the lines.
use mathlib.Core.Path.{sym}
use Prim.Native.Nat.{◌*◌}
use native.Mathlib.Omega.{arith}
use lib.ListN.{take}
use lib.Seq.{length-take-le}
use Rattle.model.specs.Norm.{kind_norm}
use Rattle.model.specs.Sense.{plain}
use Rattle.model.specs.Sheet.{card_of}
use Rattle.model.specs.Answer.{table_of}
use Rattle.model.specs.Page.{lines}
use Rattle.sheet.proofs.Laws.{kinds_some, kinds_most, fields_most}
use Rattle.page.specs.Lengths.{most_page}
use Rattle.stages.proofs.Outcomes.{settled_marks}
use Rattle.filer.proofs.Rows.{square_most}
use Rattle.text.proofs.Append.{then, reads_as}
use Rattle.page.proofs.Pages.{table_part, lines_from}
use Rattle.page.proofs.sheet_page.put_lines.Goals as goal

pub overflow_mul-size : goal.overflow_mul-size
overflow_mul-size c =
    omega (arith, square_most c.args.settlement.now.card.kinds (kinds_most c.requires.settlement.accepts.reads))

pub table_of-table-requires : goal.table_of-table-requires
table_of-table-requires c =
    kinds_most c.requires.settlement.accepts.reads

pub slice_bounds-table-end : goal.slice_bounds-table-end
slice_bounds-table-end c =
    omega (arith, square_most c.args.settlement.now.card.kinds (kinds_most c.requires.settlement.accepts.reads))

pub slice_bounds-put_kinds-end : goal.slice_bounds-put_kinds-end
slice_bounds-put_kinds-end c =
    let table_of = c.table_of-table in
    let square = square_most c.args.settlement.now.card.kinds (kinds_most c.requires.settlement.accepts.reads) in
    sym (length-take-le (c.args.settlement.now.card.kinds * c.args.settlement.now.card.kinds) table_of.result (omega arith))

pub put_kinds-at_fields-requires : goal.put_kinds-at_fields-requires
put_kinds-at_fields-requires c =
    let table_of = c.table_of-table in
    let few = kinds_most c.requires.settlement.accepts.reads in
    let square = square_most c.args.settlement.now.card.kinds few in
    let long = length-take-le (c.args.settlement.now.card.kinds * c.args.settlement.now.card.kinds) table_of.result (omega arith) in
    record { le_kinds = (kinds_some c.requires.settlement.accepts.reads, few); kinds_in_bounds = omega arith; out_in_bounds = omega (arith, c.put_head-at_kinds.ensures.ends, c.put_head-at_kinds.ensures.size, c.put_head-at_kinds.ensures.within, c.requires.most_page_in_bounds) }

pub put_fields-at_pairs-requires : goal.put_fields-at_pairs-requires
put_fields-at_pairs-requires c =
    let few = kinds_most c.requires.settlement.accepts.reads in
    let most = fields_most c.requires.settlement.accepts.reads in
    record { settlement = c.requires.settlement; fields_in_bounds = omega (arith, c.put_head-at_kinds.ensures.ends, c.put_head-at_kinds.ensures.size, c.put_head-at_kinds.ensures.within, c.put_kinds-at_fields.ensures.ends, c.put_kinds-at_fields.ensures.size, c.put_kinds-at_fields.ensures.within, c.requires.most_page_in_bounds) }

pub put_pairs-requires : goal.put_pairs-requires
put_pairs-requires c =
    let few = kinds_most c.requires.settlement.accepts.reads in
    let most = fields_most c.requires.settlement.accepts.reads in
    record { settlement = c.requires.settlement; fields_in_bounds = omega (arith, c.put_head-at_kinds.ensures.ends, c.put_head-at_kinds.ensures.size, c.put_head-at_kinds.ensures.within, c.put_kinds-at_fields.ensures.ends, c.put_kinds-at_fields.ensures.size, c.put_kinds-at_fields.ensures.within, c.put_fields-at_pairs.ensures.ends, c.put_fields-at_pairs.ensures.size, c.put_fields-at_pairs.ensures.within, c.requires.most_page_in_bounds) }

pub returns : goal.returns
returns c =
    let table = c.table_of-table in
    let put-head = c.put_head-at_kinds in
    let put-kinds = c.put_kinds-at_fields in
    let put-fields = c.put_fields-at_pairs in
    let s = c.args.sheet.now in
    let accepts = c.requires.settlement.accepts in
    let few = kinds_most accepts.reads in
    let most = fields_most accepts.reads in
    let settled = c.requires.settlement.settled_is in
    reads_as most_page (lines s (table_of s) (kind_norm (card_of s))) (then (then (then put-head.ensures put-kinds.ensures) put-fields.ensures) c.put_pairs.ensures) (omega arith)
    (lines_from accepts c.args.settlement.now.settled.stage c.args.settlement.now.settled.base.since (take (c.args.settlement.now.card.kinds * c.args.settlement.now.card.kinds) table.result) settled.stage_is (settled_marks plain s accepts.accepted settled)
    (table_part accepts c.args.settlement.now.settled.base.rows table.result settled.base_is table.ensures))
