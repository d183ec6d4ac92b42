-- The counts of the kinds below one are the same.
use Rattle.tally.proofs.Judging.{AlikeBelow}
use Rattle.tally.proofs.tally.look_unlike.Given as goal

abbrev pub invariant-loop-kind : goal.invariant-loop-kind
invariant-loop-kind l = AlikeBelow l.sheet l.first l.second l.kind
