-- The two sides agree below i.
use Rattle.model.specs.Field.{◌⊕◌, at}
use Rattle.tables.proofs.Tables.{Agree}
use Rattle.tables.proofs.effect.same_effect.Given as goal

abbrev pub invariant-loop-i : goal.invariant-loop-i
invariant-loop-i l = Agree (at l.form ⊕ at l.its) (at l.other ⊕ at l.own) l.i
