-- Every challenge and every reply is in one of the lists.
use Rattle.std.proofs.Common.{arith}
use Rattle.tables.proofs.Tables.{lent_row, lent_length}
use Rattle.tables.proofs.LineLists.{lists_matched}
use Rattle.row_tests.proofs.norm_reducing.all_answered.Goals as goal

pub usable_lines-others-requires : goal.usable_lines-others-requires
usable_lines-others-requires c =
    let long = lent_length c.rows.result.now c.args.kind (omega (arith, c.rows.ensures.long, c.requires.kind_lt_most_kinds)) c.row_of.ensures in
    (c.lines.ensures.whole, long, c.lines.ensures.whole.few)

pub all_matched-requires : goal.all_matched-requires
all_matched-requires c =
    let others = rw c.lines.ensures.lent at c.usable_lines-others.ensures.1 in
    record { list_within = λ i a. ((c.requires.lists.entries i).0 a).0.0; others_within = λ j a. ((others.entries j).0 a).0.0 }

pub returns : goal.returns
returns c =
    let e = c.args.effects.now in
    let others = rw c.lines.ensures.lent at c.usable_lines-others.ensures.1 in
    lists_matched e.lines e.rows e.forms c.args.kind (lent_row e.rows c.args.kind (rw c.rows.ensures.lent at c.row_of.ensures)) c.requires.lists others c.all_matched.ensures
