-- `put_refused`: its parts, one after the other, are the model's line.
use native.Mathlib.Omega.{arith}
use Rattle.model.specs.Page.{bytes, refused_line}
use Rattle.text.proofs.Append.{then, reads_as}
use Rattle.verdicts.proofs.Pairs.{refused_is}
use Rattle.verdicts.proofs.line.put_refused.Goals as goal

pub returns : goal.returns
unfolding bytes
returns c =
    let put-two-labelled = c.put_two_labelled-last in
    reads_as 50 (refused_line c.args.number c.args.place) (then put-two-labelled.ensures c.put_byte.ensures)
    (omega arith) (refused_is c.args.number c.args.place)
