-- After so many turns as many numbers are stored.
use Rattle.std.proofs.Common.{map}
use Rattle.theory.proofs.Writing.{Begun}
use Rattle.copies.proofs.widen.Given as goal

abbrev pub invariant-loop-i : goal.invariant-loop-i
invariant-loop-i g l = Begun (map g.T.Count.number l.values) l.initial.wide l.i l.wide
