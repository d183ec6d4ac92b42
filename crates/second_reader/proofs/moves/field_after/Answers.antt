use native.Mathlib.Omega.{arith}
use Rattle.second_reader.proofs.Counts.{filled_all, fire_past}
use Rattle.second_reader.proofs.moves.field_after.Goals as goal

pub returns : goal.returns
returns c =
    let inv = c.loop-kind.invariant in
    record {
      field = filled_all _ _ _ inv (λ q h. fire_past c.args.sheet.now 1 c.args.line q c.args.field.now c.requires.fits (omega (arith, c.kinds-kind-end.ensures)));
      grown = inv.most;
      size = inv.same;
    }
