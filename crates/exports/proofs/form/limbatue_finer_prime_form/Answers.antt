-- The buffer is as the filer left it, and its refusal fits.
use mathlib.Core.Path.{sym, ◌∙◌}
use native.Mathlib.Omega.{arith}
use Rattle.model.specs.Sense.{finer}
use Rattle.arrays.proofs.Codes.{form_fits}
use Rattle.exports.proofs.Outcomes.{form_called, refused_fits}
use Rattle.exports.proofs.form.limbatue_finer_prime_form.Goals as goal

pub forming_code-requires : goal.forming_code-requires
forming_code-requires c =
    let args = c.args in
    refused_fits c.finer_prime_form.result (λ number place e. form_fits args.sheet.now (λ i. omega (arith, c.type_inv.sheet i)) number place finer args.field args.counts.now (sym c.finer_prime_form.ensures.result_value ∙ e))

pub returns : goal.returns
returns c =
    let args = c.args in
    let called = form_called finer args.sheet.now args.field args.counts.now _ c.finer_prime_form.ensures.result_value in
    record { value = c.forming_code.ensures ∙ called.0; counts_after = c.finer_prime_form.ensures.buffer_after ∙ called.1 }
