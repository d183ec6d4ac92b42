-- `put_counts`: "=" and then the counts.
use Rattle.text.proofs.Sequence.{marked}
use Rattle.text.proofs.counts.put_counts.Goals as goal

pub returns : goal.returns
returns c =
    let put_byte = c.put_byte-next in
    marked c.args.counts.now put_byte.ensures c.put_each_count.ensures
