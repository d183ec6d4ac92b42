-- `put_shelved`: its parts, one after the other, are the line.
use native.Mathlib.Omega.{arith}
use Rattle.model.specs.Page.{bytes}
use Rattle.text.proofs.Append.{then, reads_as}
use Rattle.shelf_verbs.specs.Texts.{most_shelved, shelved_line}
use Rattle.shelf_verbs.proofs.Shelved.{shelved_is}
use Rattle.shelf_verbs.proofs.number.put_shelved.Goals as goal

pub returns : goal.returns
unfolding bytes
returns c =
    let put-two-labelled = c.put_two_labelled-last in
    reads_as most_shelved (shelved_line c.args.size c.args.number) (then put-two-labelled.ensures c.put_byte.ensures)
    (omega arith) (shelved_is c.args.size c.args.number)
