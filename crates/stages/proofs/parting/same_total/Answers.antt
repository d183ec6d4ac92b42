-- The two numbers are the totals of the fields.
use borrow.Author.Tests.{eq-eqb, eqb-true}
use mathlib.Core.Path.{◌≡◌, sym, ◌∙◌}
use native.Mathlib.Omega.{arith}
use Rattle.model.specs.Sense.{total}
use Rattle.model.specs.Sheet.{card_of, field_of}
use Rattle.sheet.proofs.Laws.{kinds_most}
use Rattle.stages.proofs.Fields.{read_few, read_total}
use Rattle.stages.proofs.parting.same_total.Goals as goal
use Rattle.stages.proofs.parting.same_total.Goals.{After-field_tokens-other}

pub field_tokens-one-requires : goal.field_tokens-one-requires
field_tokens-one-requires c = record { kinds_le_most_kinds = kinds_most c.requires.reads; field_bound = read_few c.requires.reads c.args.first _ c.field.ensures (λ k. omega (arith, c.shared_slice_known-1.given k)) }

pub field_tokens-other-requires : goal.field_tokens-other-requires
field_tokens-other-requires c = record { kinds_le_most_kinds = kinds_most c.requires.reads; field_bound = read_few c.requires.reads c.args.second _ c.field-2.ensures (λ k. omega (arith, c.shared_slice_known-1.given k)) }

own : (c : After-field_tokens-other) → c.field_tokens-one.result ≡ total (card_of c.args.sheet.now) (field_of c.args.sheet.now c.args.first)
own c =
    c.field_tokens-one.ensures ∙ read_total c.requires.reads c.args.first _ c.field.ensures

other : (c : After-field_tokens-other) → c.field_tokens-other.result ≡ total (card_of c.args.sheet.now) (field_of c.args.sheet.now c.args.second)
other c =
    c.field_tokens-other.ensures ∙ read_total c.requires.reads c.args.second _ c.field-2.ensures

pub returns : goal.returns
returns c = (
  λ e. sym (own (goal.at.returns c).After-field_tokens-other) ∙ eqb-true _ _ e ∙ other (goal.at.returns c).After-field_tokens-other,
  λ e. eq-eqb _ _ (own (goal.at.returns c).After-field_tokens-other ∙ e ∙ sym (other (goal.at.returns c).After-field_tokens-other)),
)
