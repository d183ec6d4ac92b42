-- The rows from the position up are right.
use Rattle.moves.specs.Following.{FollowsFrom}
use Rattle.moves.proofs.follow.fill_table.Given as goal

abbrev pub invariant-loop-position : goal.invariant-loop-position
invariant-loop-position l = FollowsFrom l.sheet l.position l.table
