-- `put_count`: a number with a space before it.
use mathlib.Core.Path.{refl}
use native.Mathlib.Omega.{arith}
use Rattle.model.specs.Page.{bytes}
use Rattle.text.specs.Count.{count_text}
use Rattle.text.specs.Lengths.{most_count}
use Rattle.text.proofs.Append.{reads_as}
use Rattle.text.proofs.counts.put_count.Goals as goal

pub returns : goal.returns
unfolding count_text bytes
returns c =
    reads_as most_count (count_text c.args.count) c.put_labelled.ensures (omega arith) refl
