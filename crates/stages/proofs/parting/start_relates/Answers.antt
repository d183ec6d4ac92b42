-- By the norms, and in the finer sense by the totals too.
use mathlib.Core.Path.{refl}
use Rattle.tables.specs.Senses.{sense_of}
use Rattle.tables.proofs.Tables.{tells_other, told_not}
use Rattle.stages.proofs.Verdict.{start_norm}
use Rattle.stages.proofs.parting.start_relates.Goals as goal

pub returns-in-Plain : goal.returns-in-Plain
returns-in-Plain c = rw c.in-Plain.is ((λ _. c.same_norm.ensures.0 c.if-same_norm.true), (λ _. refl))

pub returns-in-Finer : goal.returns-in-Finer
returns-in-Finer c =
    let norms = c.same_norm.ensures.0 c.if-same_norm.true in
    rw c.in-Finer.is ((λ e. (norms, c.same_total.ensures.0 e)), (λ e. c.same_total.ensures.1 e.1))

pub returns : goal.returns
returns c = tells_other (λ e. told_not c.same_norm.ensures c.if-same_norm.false (start_norm (sense_of c.args.sense) _ _ _ _ e))
