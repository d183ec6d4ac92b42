-- The buffer is as the crate frequencies left it.
use mathlib.Core.Path.{sym, ◌∙◌}
use native.Mathlib.Omega.{arith}
use Rattle.arrays.proofs.Codes.{frequencies_fits}
use Rattle.exports.proofs.Outcomes.{frequencies_called}
use Rattle.exports.proofs.frequency_counts.limbatue_frequencies.Goals as goal

pub refused-requires : goal.refused-requires
refused-requires c =
    let args = c.args in
    frequencies_fits args.sheet.now (λ i. omega (arith, c.type_inv.sheet i)) _ _ args.field args.size args.counts.now (sym c.in-Err.ensures.result_value)

pub returns-in-Ok : goal.returns-in-Ok
returns-in-Ok c =
    let args = c.args in
    let called = frequencies_called args.sheet.now args.field args.size args.counts.now _ (c.in-Ok.ensures.result_value) in
    record { value = called.0; counts_after = c.frequencies.ensures.buffer_after ∙ called.1 }

pub returns-in-Err : goal.returns-in-Err
returns-in-Err c =
    let args = c.args in
    let called = frequencies_called args.sheet.now args.field args.size args.counts.now _ (c.in-Err.ensures.result_value) in
    record { value = c.refused.ensures ∙ called.0; counts_after = c.frequencies.ensures.buffer_after ∙ called.1 }
