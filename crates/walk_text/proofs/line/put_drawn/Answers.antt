-- The label with the number, and then the line's end.
use mathlib.Core.Path.{ap, ◌∙◌}
use native.Mathlib.Omega.{arith}
use Rattle.model.specs.Page.{bytes}
use Rattle.text.proofs.Append.{then, reads_as}
use Rattle.walk_text.specs.Line.{most_drawn, drawn_text}
use Rattle.walk_text.proofs.Texts.{drawn_is}
use Rattle.walk_text.proofs.line.put_drawn.Goals as goal

pub returns : goal.returns
unfolding bytes
returns c =
    let drawn = c.args.drawn in
    reads_as most_drawn (drawn_text drawn) (then c.put_labelled-next.ensures c.put_bytes.ensures) (omega arith) (drawn_is _ ∙ ap drawn_text c.from.ensures)
