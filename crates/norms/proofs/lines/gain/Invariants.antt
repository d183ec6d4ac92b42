-- The most is that of the lines from j on.
use mathlib.Core.Path.{◌≡◌}
use Rattle.norms.proofs.Gains.{gain_from}
use Rattle.norms.proofs.lines.gain.Given as goal

abbrev pub invariant-loop-j : goal.invariant-loop-j
invariant-loop-j l = l.most ≡ gain_from l.sheet l.card.lines l.j
