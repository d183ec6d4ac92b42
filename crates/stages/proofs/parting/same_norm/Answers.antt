-- The two numbers are the norms of the fields.
use borrow.Author.Tests.{eq-eqb, eqb-true}
use mathlib.Core.Path.{◌≡◌, sym, ◌∙◌}
use native.Mathlib.Omega.{arith}
use Rattle.model.specs.Norm.{norm}
use Rattle.model.specs.Sheet.{card_of, field_of}
use Rattle.sheet.proofs.Laws.{kinds_most}
use Rattle.stages.proofs.Fields.{read_fits, read_norm}
use Rattle.stages.proofs.parting.same_norm.Goals as goal
use Rattle.stages.proofs.parting.same_norm.Goals.{After-field_norm-other}

pub field_norm-one-requires : goal.field_norm-one-requires
field_norm-one-requires c = record { kinds_le_most_kinds = kinds_most c.requires.accepts.reads; field_bound = read_fits c.requires.accepts.reads c.args.first _ c.field.ensures c.requires.accepts (λ k. omega (arith, c.shared_slice_known-1.given k)) }

pub field_norm-other-requires : goal.field_norm-other-requires
field_norm-other-requires c = record { kinds_le_most_kinds = kinds_most c.requires.accepts.reads; field_bound = read_fits c.requires.accepts.reads c.args.second _ c.field-2.ensures c.requires.accepts (λ k. omega (arith, c.shared_slice_known-1.given k)) }

own : (c : After-field_norm-other) → c.field_norm-one.result ≡ norm (card_of c.args.sheet.now) (field_of c.args.sheet.now c.args.first)
own c =
    c.field_norm-one.ensures ∙ read_norm c.requires.accepts.reads c.args.first _ c.field.ensures c.requires.accepts

other : (c : After-field_norm-other) → c.field_norm-other.result ≡ norm (card_of c.args.sheet.now) (field_of c.args.sheet.now c.args.second)
other c =
    c.field_norm-other.ensures ∙ read_norm c.requires.accepts.reads c.args.second _ c.field-2.ensures c.requires.accepts

pub returns : goal.returns
returns c = (
  λ e. sym (own (goal.at.returns c).After-field_norm-other) ∙ eqb-true _ _ e ∙ other (goal.at.returns c).After-field_norm-other,
  λ e. eq-eqb _ _ (own (goal.at.returns c).After-field_norm-other ∙ e ∙ sym (other (goal.at.returns c).After-field_norm-other)),
)
