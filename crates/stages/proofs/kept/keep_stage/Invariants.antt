-- The kinds below the present one are kept, and the others are as they were.
use Rattle.stages.specs.Kept.{KeptFrom}
use Rattle.stages.proofs.kept.keep_stage.Given as goal

abbrev pub invariant-loop-kind : goal.invariant-loop-kind
invariant-loop-kind l = KeptFrom l.before l.after l.stage l.kind l.initial.since l.initial.rows l.since l.rows
