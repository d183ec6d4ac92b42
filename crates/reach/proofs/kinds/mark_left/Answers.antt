use mathlib.Core.Path.{sym, ◌∙◌}
use native.Mathlib.Omega.{arith}
use Rattle.reach.proofs.Adding.{added_more, added_skip}
use Rattle.reach.proofs.Passing.{line_short, line_adds}
use Rattle.reach.proofs.kinds.mark_left.Goals as goal
use Rattle.reach.proofs.kinds.mark_left.Goals.{then-line_kind-kind, else-line_kind-kind}

pub mark-requires : goal.mark-requires
mark-requires c =
    let loop = c.loop-line in
    omega (arith, line_short c.requires.reads _ _ c.line_counts.ensures, loop.invariant.long, c.requires.marks_len)

pub loop-line-preserved : goal.loop-line-preserved
loop-line-preserved c =
    let loop = c.loop-line in
    elim c.if-line_kind-kind.branch [
      | then-line_kind-kind w ↦ rw w.marks-is (added_more loop.invariant w.mark.auto.marks (line_adds c.requires.reads loop.line _ w.line_counts.ensures (sym c.line_kind.ensures ∙ w.if-line_kind-kind.true) w.mark.ensures))
      | else-line_kind-kind w ↦ rw w.marks-is (added_skip loop.invariant (λ k q. w.if-line_kind-kind.false (c.line_kind.ensures ∙ q.0)))
    ]
