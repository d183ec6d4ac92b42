-- The lines of the list before the place at hand have matches; the lines of the other list before the place reached come before those that are left.
use Rattle.tables.specs.Match.{MatchBy}
use Rattle.ranks.specs.Order.{PrecedesBy}
use Rattle.ranks.proofs.Merging.{Passing}
use Rattle.ranks.proofs.matched.each_matched_in_order.Given as goal

abbrev pub invariant-loop-place : goal.invariant-loop-place
invariant-loop-place l = Passing (MatchBy l.effects) (PrecedesBy l.effects) l.list l.others l.reached l.place
