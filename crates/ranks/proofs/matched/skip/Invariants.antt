-- The entries from where the search begins to the place at hand come before the line.
use Rattle.ranks.specs.Order.{PrecedesBy}
use Rattle.ranks.proofs.Merging.{Skipping}
use Rattle.ranks.proofs.matched.skip.Given as goal

abbrev pub invariant-loop-place : goal.invariant-loop-place
invariant-loop-place l = Skipping (PrecedesBy l.effects) l.others l.from l.line l.place
