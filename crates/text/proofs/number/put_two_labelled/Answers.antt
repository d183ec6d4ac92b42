-- `put_two_labelled`: two texts, one after the other.
use Rattle.text.proofs.Append.{then}
use Rattle.text.proofs.number.put_two_labelled.Goals as goal

pub returns : goal.returns
returns c =
    let put-labelled = c.put_labelled-next in
    then put-labelled.ensures c.put_labelled.ensures
