-- `put_start`: its parts, one after the other, are the start.
use native.Mathlib.Omega.{arith}
use Rattle.model.specs.Page.{bytes}
use Rattle.text.proofs.Append.{then, reads_as}
use Rattle.verdicts.specs.Pair.{start_text}
use Rattle.verdicts.proofs.Pairs.{start_is}
use Rattle.verdicts.proofs.line.put_start.Goals as goal

pub returns : goal.returns
unfolding bytes
returns c =
    let put-labelled = c.put_labelled-last in
    reads_as 28 (start_text c.args.later) (then put-labelled.ensures c.put_byte.ensures) (omega arith) (start_is c.args.later)
