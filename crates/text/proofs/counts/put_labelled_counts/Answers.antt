-- `put_labelled_counts`: its parts, one after the other, are the line.
use native.Mathlib.Omega.{arith}
use lib.ListN.{length}
use Rattle.model.specs.Page.{bytes}
use Rattle.text.specs.Count.{labelled_counts}
use Rattle.text.specs.Lengths.{most_labelled_counts}
use Rattle.text.proofs.Append.{then, reads_as}
use Rattle.text.proofs.Sequence.{labelled}
use Rattle.text.proofs.counts.put_labelled_counts.Goals as goal

pub returns : goal.returns
unfolding bytes
returns c =
    let put-labelled = c.put_labelled-space in
    let put_byte = c.put_byte-shown in
    let put-counts = c.put_counts-last in
    let a = c.args in
    reads_as (most_labelled_counts (length a.label.now) (length a.counts.now)) (labelled_counts a.label.now a.value a.counts.now)
    (then put-labelled.ensures (then put_byte.ensures (then put-counts.ensures c.put_byte.ensures)))
    (omega arith) (labelled a.label.now a.value a.counts.now)
