-- `put_common`: its parts, one after the other, are the line.
use native.Mathlib.Omega.{arith}
use lib.ListN.{length, length-drop}
use Rattle.model.specs.Page.{bytes}
use Rattle.text.proofs.Append.{then, reads_as}
use Rattle.frequencies_verb.specs.Texts.{most_common, common_line}
use Rattle.frequencies_verb.proofs.Counted.{common_is}
use Rattle.frequencies_verb.proofs.common.put_common.Goals as goal

pub returns : goal.returns
unfolding bytes
returns c =
    let counts = c.args.counts.now in
    let put-labelled = c.put_labelled-same in
    let put-bytes = c.put_bytes-stages in
    reads_as (most_common (length counts)) (common_line counts) (then (then put-labelled.ensures put-bytes.ensures) c.put_counts_line.ensures) (omega (arith, c.requires, length-drop 1 counts)) (common_is counts)
