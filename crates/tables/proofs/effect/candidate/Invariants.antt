-- The counts below i are found.
use Rattle.tables.proofs.Subtraction.{Subtracted}
use Rattle.tables.proofs.effect.candidate.Given as goal

abbrev pub invariant-loop-i : goal.invariant-loop-i
invariant-loop-i l = Subtracted l.form l.other l.kind l.counts l.i
