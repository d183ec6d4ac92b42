-- The kinds hold the best values of the lines of reached kinds from j on.
use mathlib.Core.Path.{◌≡◌}
use Rattle.model.specs.Field.{at}
use Rattle.model.specs.Sheet.{line_of}
use Rattle.norms.specs.Norms.{array_of}
use Rattle.norms.proofs.Laws.{in_reach}
use Rattle.norms.proofs.Sweeps.{found_from}
use Rattle.norms.proofs.kinds.sweep.Given as goal

abbrev pub invariant-loop-j : goal.invariant-loop-j
invariant-loop-j l = l.next ≡ array_of (found_from l.card.kinds (at l.values) (in_reach l.sheet) (line_of l.sheet) l.card.lines l.j)
