-- A check that is clear puts the row inside the table.
use mathlib.Core.Path.{sym, ◌∙◌}
use native.Mathlib.Omega.{arith}
use Rattle.filer.proofs.Rows.{row_inside, whole}
use Rattle.arrays.proofs.Codes.{row_fits}
use Rattle.arrays.proofs.Replies.{code_is, values_are}
use Rattle.exports.proofs.Outcomes.{row_gives, row_refuses}
use Rattle.exports.proofs.row.limbatue_row_check.Goals as goal

pub reply_row-requires : goal.reply_row-requires
reply_row-requires c =
    let args = c.args in
    let inside : _ = row_inside args.kinds args.kind args.table.now (whole args.kinds args.kind args.table.now (sym c.in-Ok.ensures)) in
    omega arith

pub refused-requires : goal.refused-requires
refused-requires c =
    let args = c.args in
    row_fits args.kinds args.kind args.table.now _ _ (sym c.in-Err.ensures)

pub returns-in-Ok : goal.returns-in-Ok
returns-in-Ok c =
    let args = c.args in
    let e = row_gives args.kinds args.kind args.table.now args.answer.now (sym c.in-Ok.ensures) in
    record { value = c.reply_row.ensures.value ∙ code_is e; answer_after = c.reply_row.ensures.answer_after ∙ values_are e }

pub returns-in-Err : goal.returns-in-Err
returns-in-Err c =
    let args = c.args in
    let e = row_refuses args.kinds args.kind args.table.now args.answer.now _ _ (sym c.in-Err.ensures) in
    record { value = c.refused.ensures ∙ code_is e; answer_after = values_are e }
