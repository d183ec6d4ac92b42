-- The sum over the line's part of the bytes is the norm of what the line leaves.
use mathlib.Core.Path.{◌∙◌}
use Rattle.norms.proofs.Laws.{part_short, part_fits, part_norm}
use Rattle.norms.proofs.lines.left_norm.Goals as goal

pub weight-requires : goal.weight-requires
weight-requires c =
    let A = c.requires.accepts in
    record { counts_len_bound = part_short A.reads c.args.line _ c.line_counts.ensures; counts_bound = part_fits A c.args.line _ c.line_counts.ensures (λ k. (c.type_inv.sheet k).fits) }

pub returns : goal.returns
returns c =
    c.weight.ensures ∙ part_norm c.requires.accepts c.args.line _ c.line_counts.ensures
