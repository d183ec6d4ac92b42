-- `put_head`: its parts, one after the other, are the line.
use native.Mathlib.Omega.{arith}
use Rattle.model.specs.Page.{bytes}
use Rattle.listing.specs.Lengths.{most_head}
use Rattle.listing.specs.Line.{head_text}
use Rattle.text.proofs.Append.{then, reads_as}
use Rattle.listing.proofs.Lines.{head_is}
use Rattle.listing.proofs.line.put_head.Goals as goal

pub returns : goal.returns
unfolding bytes
returns c =
    let put-two-labelled = c.put_two_labelled-last in
    reads_as most_head (head_text c.args.kinds c.args.stage) (then put-two-labelled.ensures c.put_byte.ensures)
    (omega arith) (head_is c.args.kinds c.args.stage)
