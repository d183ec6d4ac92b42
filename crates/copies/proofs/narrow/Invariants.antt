-- After so many turns as many values are stored.
use Rattle.theory.proofs.Writing.{Begun}
use Rattle.copies.proofs.narrow.Given as goal

abbrev pub invariant-loop-i : goal.invariant-loop-i
invariant-loop-i l = Begun l.values l.initial.buffer l.i l.buffer
