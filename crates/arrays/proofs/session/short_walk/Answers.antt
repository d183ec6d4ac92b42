-- What the walk's checks find.
use mathlib.Core.Path.{sym, ap, ◌∙◌}
use native.Mathlib.Omega.{arith}
use Rattle.arrays.specs.Session.{short_code_by}
use Rattle.arrays.proofs.Codes.{found_fits, walk_small}
use Rattle.arrays.proofs.session.short_walk.Goals as goal

pub refused-requires : goal.refused-requires
refused-requires c =
    let args = c.args in
    found_fits _ (walk_small args.sheet.now (λ i. omega (arith, c.type_inv.sheet i)) args.first args.second args.limit args.desk) _ _ (sym c.in-Err.ensures.found)

pub returns-in-Ok : goal.returns-in-Ok
returns-in-Ok c = ap short_code_by c.in-Ok.ensures.found

pub returns-in-Err : goal.returns-in-Err
returns-in-Err c = c.refused.ensures ∙ ap short_code_by c.in-Err.ensures.found
