-- The buffer is as the crate numbering left it.
use mathlib.Core.Path.{sym, ◌∙◌}
use native.Mathlib.Omega.{arith}
use Rattle.arrays.proofs.Codes.{shelf_field_fits}
use Rattle.arrays.proofs.Replies.{code_is, lent_is}
use Rattle.exports.proofs.Outcomes.{shelf_field_gives, shelf_field_refuses, shelf_field_kept}
use Rattle.exports.proofs.shelf_field.limbatue_shelf_field.Goals as goal

pub refused-requires : goal.refused-requires
refused-requires c =
    let args = c.args in
    shelf_field_fits args.sheet.now (λ i. omega (arith, c.type_inv.sheet i)) _ _ args.size args.number args.counts.now (sym c.in-Err.ensures.result_value)

pub returns-in-Ok : goal.returns-in-Ok
returns-in-Ok c =
    let args = c.args in
    let shelf-field = c.shelf_field in
    let e = shelf_field_gives args.sheet.now args.size args.number args.counts.now (sym c.in-Ok.ensures.result_value) in
    record { value = code_is e; counts_after = shelf-field.ensures.buffer_after ∙ lent_is e }

pub returns-in-Err : goal.returns-in-Err
returns-in-Err c =
    let args = c.args in
    let shelf-field = c.shelf_field in
    let d = sym c.in-Err.ensures.result_value in
    let e = shelf_field_refuses args.sheet.now args.size args.number args.counts.now _ _ d in
    record { value = c.refused.ensures ∙ code_is e; counts_after = shelf-field.ensures.buffer_after ∙ shelf_field_kept args.sheet.now args.size args.number args.counts.now _ _ d ∙ lent_is e }
