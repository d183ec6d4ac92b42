-- What the checks find, by a call on another buffer.
use mathlib.Core.Path.{sym, ◌∙◌}
use native.Mathlib.Omega.{arith}
use Rattle.arrays.proofs.Codes.{squads_fits}
use Rattle.exports.proofs.SquadsOutcomes.{short_refused, short_given}
use Rattle.exports.proofs.squad_count.short_squads.Goals as goal

pub refused-requires : goal.refused-requires
refused-requires c =
    let args = c.args in
    squads_fits args.sheet.now (λ i. omega (arith, c.type_inv.sheet i)) _ _ args.whole args.squad _ (sym c.in-Err.ensures.result_value)

pub returns-in-Ok : goal.returns-in-Ok
returns-in-Ok c =
    let args = c.args in
    short_given args.sheet.now args.whole args.squad _ _ (sym c.in-Ok.ensures.result_value)

pub returns-in-Err : goal.returns-in-Err
returns-in-Err c =
    let args = c.args in
    c.refused.ensures ∙ short_refused args.sheet.now args.whole args.squad _ _ _ (sym c.in-Err.ensures.result_value)
