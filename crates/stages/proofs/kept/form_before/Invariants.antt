use Rattle.stages.proofs.Keeping.{Lowered}
use Rattle.stages.proofs.kept.form_before.Given as goal

abbrev pub invariant-loop-kind : goal.invariant-loop-kind
invariant-loop-kind l = Lowered l.form l.since l.rows l.stage l.sum l.kind
