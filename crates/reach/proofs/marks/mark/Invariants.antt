-- The kinds passed are marked where there are tokens of them.
use mathlib.Core.List.{map}
use Rattle.reach.proofs.Adding.{Added, Counted}
use Rattle.reach.proofs.marks.mark.Given as goal

abbrev pub invariant-loop-kind : goal.invariant-loop-kind
invariant-loop-kind g l = Added (Counted (map g.T.Count.tokens l.counts)) l.kind l.initial.marks l.marks
