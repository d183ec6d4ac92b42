-- The values are those after so many sweeps.
use mathlib.Core.Path.{◌≡◌}
use Rattle.norms.specs.Norms.{array_of}
use Rattle.norms.proofs.Sweeps.{swept}
use Rattle.norms.proofs.kinds.kind_norms.Given as goal

abbrev pub invariant-loop-turn : goal.invariant-loop-turn
invariant-loop-turn l = l.values ≡ array_of (swept l.sheet l._turn)
