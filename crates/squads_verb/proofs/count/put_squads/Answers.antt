-- `put_squads`: the line, after its label and number.
use native.Mathlib.Omega.{arith}
use lib.ListN.{length}
use Rattle.model.specs.Page.{bytes}
use Rattle.text.proofs.Append.{reads_as}
use Rattle.squads_verb.specs.Texts.{most_squads, squads_line}
use Rattle.squads_verb.proofs.Counted.{squads_is}
use Rattle.squads_verb.proofs.count.put_squads.Goals as goal

pub returns : goal.returns
unfolding bytes
returns c =
    let args = c.args in
    reads_as (most_squads (length args.remainder.now)) (squads_line args.count args.remainder.now) c.put_labelled_counts.ensures (omega arith) (squads_is args.count args.remainder.now)
