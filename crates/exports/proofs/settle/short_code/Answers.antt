-- What the checks 1 to 10 find.
use mathlib.Core.Path.{◌∙◌}
use native.Mathlib.Omega.{arith}
use Rattle.model.specs.Refusal.{Accepted}
use Rattle.acceptance.proofs.Acceptances.{accepts, found_refused}
use Rattle.arrays.proofs.Codes.{found_fits, accept_small}
use Rattle.exports.proofs.Outcomes.{short_clear, short_refused}
use Rattle.exports.proofs.settle.short_code.Goals as goal

pub refused-requires : goal.refused-requires
refused-requires c =
    let s = c.args.sheet.now in
    found_fits _ (accept_small s (λ i. omega (arith, c.type_inv.sheet i))) _ _ (found_refused s _ _ c.in-Err.ensures)

pub returns-in-Ok : goal.returns-in-Ok
unfolding Accepted
returns-in-Ok c = let s = c.args.sheet.now in short_clear s (accepts s _ c.in-Ok.ensures).accepted

pub returns-in-Err : goal.returns-in-Err
returns-in-Err c = let s = c.args.sheet.now in c.refused.ensures ∙ short_refused s _ _ (found_refused s _ _ c.in-Err.ensures)
