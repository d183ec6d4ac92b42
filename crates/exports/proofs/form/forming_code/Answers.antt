-- Each case by its number.
use mathlib.Core.Path.{◌∙◌, sym, ap}
use Rattle.std.proofs.lemmas.Result.{IfErr-at_err}
use Rattle.refusals.specs.Refusals.{answer_of}
use Rattle.exports.specs.Calls.{written_code}
use Rattle.exports.proofs.form.forming_code.Goals as goal

pub refused-requires : goal.refused-requires
refused-requires c = IfErr-at_err _ c.in-Err.is c.requires

pub returns-in-Ok : goal.returns-in-Ok
returns-in-Ok c = sym (ap (λ f. written_code (answer_of (λ x. tt) f)) c.in-Ok.is)

pub returns-in-Err : goal.returns-in-Err
returns-in-Err c = c.refused.ensures ∙ sym (ap (λ f. written_code (answer_of (λ x. tt) f)) c.in-Err.is)
