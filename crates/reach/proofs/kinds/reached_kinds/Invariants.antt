-- The lines of the kinds that are done were followed. The measure is the kinds that are not done.
use Rattle.model.specs.Limits.{most_kinds}
use Rattle.theory.proofs.Done.{left_over}
use Rattle.reach.proofs.Following.{Followed}
use Rattle.reach.proofs.kinds.reached_kinds.Given as goal

abbrev pub invariant-loop-kind : goal.invariant-loop-kind
invariant-loop-kind l = Followed l.sheet l.marks l.done

abbrev pub decreases-loop-kind : goal.decreases-loop-kind
decreases-loop-kind l = left_over most_kinds l.done
