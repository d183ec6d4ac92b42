-- The decomposition by the final base is the prime form.
use borrow.Author.Rules.{rules}
use mathlib.Core.Path.{◌≡◌, ◌∙◌}
use native.Mathlib.Omega.{arith}
use lib.ListN.{length}
use Rattle.sheet.proofs.Laws.{kinds_are, kinds_most}
use Rattle.theory.proofs.Writing.{first_counts}
use Rattle.stages.proofs.Outcomes.{settled_fit, prime_form_is}
use Rattle.filer.proofs.form.prime_counts.Goals as goal

pub field_form-requires : goal.field_form-requires
field_form-requires c =
    let read = c.requires.reads.0 in
    let ok = c.requires.reads.1 in
    record { reads = read; field_lt_fields = c.requires.field_lt_fields; rows_len = (search rules, settled_fit c.requires.base_at.0 c.args.sheet.now ok _ c.requires.base_at.1 (λ k. omega (arith, c.type_inv.sheet k))) }

pub returns : goal.returns
returns c =
    let read = c.requires.reads.0 in
    let long : length c.field_form.result ≡ 32 = search rules in
    λ sense base.
    first_counts c.field_form.result _ (omega (arith, kinds_are read, kinds_most read))
    ∙ prime_form_is sense c.args.sheet.now c.requires.reads.1 _ base c.args.field c.field_form.result c.field_form.ensures
