-- `put_stages`: the label with the number, and then the line's end.
use mathlib.Core.Path.{refl}
use native.Mathlib.Omega.{arith}
use Rattle.model.specs.Page.{bytes, newline}
use Rattle.text.proofs.Append.{then, reads_as}
use Rattle.verbs.specs.Texts.{most_stages, stages_line}
use Rattle.verbs.proofs.settle.put_stages.Goals as goal

pub returns : goal.returns
unfolding stages_line newline bytes
returns c =
    let put-labelled = c.put_labelled-last in
    reads_as most_stages (stages_line c.args.stage) (then put-labelled.ensures c.put_byte.ensures) (omega arith) refl
