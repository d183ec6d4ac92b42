use native.Mathlib.Omega.{arith}
use mathlib.Core.Path.{ap, sym}
use Rattle.std.specs.Result.{is_ok}
use Rattle.std.proofs.lemmas.Result.{Ok-from_Ok_iff}
use Rattle.tables.proofs.Answers.{not_both}
use Rattle.tables.proofs.Subtraction.{subtracted_none, subtracted_all, subtracted_not}
use Rattle.tables.proofs.effect.candidate.Goals as goal

pub loop-i-init : goal.loop-i-init
loop-i-init c = subtracted_none (omega arith)

pub returns-in_err-rest : goal.returns-in_err-rest
returns-in_err-rest c =
    let less = c.in_err-rest.ensures in
    rw c.from_residual.ensures (subtracted_not c.loop-i.i (λ v _ e. less (omega arith)))

pub returns-in_err-counts : goal.returns-in_err-counts
returns-in_err-counts c =
    let told = c.in_ok-rest.ensures in
    let not = sym c.in_err-counts.ensures.variant in
    rw c.from_residual-in_err-counts.ensures
    (subtracted_not c.loop-i.i (λ v fits e. not_both not (ap is_ok (Ok-from_Ok_iff c.try_from.result _ _ c.try_from.ensures (omega arith)))))

pub returns : goal.returns
returns c = subtracted_all c.loop-i.invariant (omega arith) (omega arith) (omega arith)
