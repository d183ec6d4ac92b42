-- `put_labelled`: two texts, one after the other.
use Rattle.text.proofs.Append.{then}
use Rattle.text.proofs.number.put_labelled.Goals as goal

pub returns : goal.returns
returns c =
    let put-bytes = c.put_bytes-next in
    then put-bytes.ensures c.put_number.ensures
