-- The counts that were read are the field's, and their sum is its tokens.
use mathlib.Core.Path.{◌≡◌, refl, ◌∙◌, ap}
use native.Mathlib.Omega.{arith}
use Rattle.model.specs.Field.{Field, at}
use Rattle.model.specs.Sheet.{field_of}
use Rattle.sheet.proofs.Laws.{kinds_are, kinds_most, field_counts_at, field_under}
use Rattle.weights.proofs.Bounds.{counts_fit}
use Rattle.squads.proofs.entry.is_empty.Goals as goal
use Rattle.squads.proofs.entry.is_empty.Goals.{After-field}

counts_are : (c : After-field) → at c.field.result ≡ field_of c.args.sheet.now c.args.field
counts_are c = ap at c.field.ensures ∙ field_counts_at c.requires.reads c.args.field

pub field_tokens-requires : goal.field_tokens-requires
field_tokens-requires c =
    let few = kinds_most c.requires.reads in record {
      kinds_le_most_kinds = few;
      field_bound = counts_fit c.args.card.kinds (λ _. 1) (at c.field.result) few (λ k. omega arith)
          (λ k. omega (arith, ap (λ (f : Field). f k) (counts_are (goal.at.field_tokens-requires c).After-field), field_under c.args.sheet.now c.args.field (λ i. omega (arith, c.type_inv.sheet i)) k));
    }

pub returns : goal.returns
returns c =
    rw (← kinds_are c.requires.reads, ← counts_are (goal.at.returns c).After-field, ← c.field_tokens.ensures) refl
