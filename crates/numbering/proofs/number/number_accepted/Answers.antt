-- What each return answers, by the tests on the way.
use mathlib.Core.Path.{◌≡◌, sym, ◌∙◌, ap}
use native.Mathlib.Omega.{arith}
use Rattle.model.specs.Field.{Field, at, tokens}
use Rattle.model.specs.Sheet.{kind_count, field_of}
use Rattle.sheet.proofs.Laws.{kinds_are, fields_are, kinds_most, field_counts_at, field_under}
use Rattle.weights.proofs.Bounds.{counts_fit}
use Rattle.numbering.proofs.Listed.{listed_are, listed_order}
use Rattle.numbering.proofs.Calls.{number_no_field, number_over, listed_by, number_by}
use Rattle.numbering.proofs.number.number_accepted.Goals as goal
use Rattle.numbering.proofs.number.number_accepted.Goals.{After-field-counts, After-field_tokens-size}

-- The counts that were read are the field's, and their sum is its tokens.
counts_are : (c : After-field-counts) → at c.field-counts.result ≡ field_of c.args.sheet.now c.args.field
counts_are c = ap at c.field-counts.ensures ∙ field_counts_at c.requires.reads c.args.field

size_is : (c : After-field_tokens-size) → let args = c.args in c.field_tokens-size.result ≡ tokens (kind_count args.sheet.now) (field_of args.sheet.now args.field)
size_is c =
    let counts_are : at c.field-counts.result ≡ field_of c.args.sheet.now c.args.field = ap at c.field-counts.ensures ∙ field_counts_at c.requires.reads c.args.field in
    rw (← kinds_are c.requires.reads, ← counts_are) c.field_tokens-size.ensures

pub returns-then-fields-field : goal.returns-then-fields-field
returns-then-fields-field c =
    sym (number_no_field c.args.sheet.now c.requires.accepted c.args.field (omega (arith, fields_are c.requires.reads, c.if-fields-field.true)))

pub field_tokens-size-requires : goal.field_tokens-size-requires
field_tokens-size-requires c =
    let few = kinds_most c.requires.reads in record {
      kinds_le_most_kinds = few;
      field_bound = counts_fit c.args.card.kinds (λ _. 1) (at c.field-counts.result) few (λ k. omega arith)
          (λ k. omega (arith, ap (λ (f : Field). f k) (counts_are (goal.at.field_tokens-size-requires c).After-field-counts), field_under c.args.sheet.now c.args.field (λ i. omega (arith, c.type_inv.sheet i)) k));
    }

pub returns-then-size-gt-TOKENS : goal.returns-then-size-gt-TOKENS
returns-then-size-gt-TOKENS c =
    sym (number_over c.args.sheet.now c.requires.accepted c.args.field (rw (fields_are c.requires.reads) at c.if-fields-field.false) (omega (arith, rw (size_is (goal.at.returns-then-size-gt-TOKENS c).After-field_tokens-size) at c.if-size-gt-TOKENS.true)))

pub listed_kinds-kinds-requires : goal.listed_kinds-kinds-requires
listed_kinds-kinds-requires c = kinds_most c.requires.reads

pub number_of-number-requires : goal.number_of-number-requires
number_of-number-requires c =
    let listed = c.listed_kinds-kinds.ensures in
    record { in_order = listed_order c.requires _ listed; size_le_most_tokens = c.if-size-gt-TOKENS.false; fact = listed_by c.args.sheet.now c.requires.accepted c.args.field (listed_are c.requires _ listed) (counts_are (goal.at.number_of-number-requires c).After-field-counts) (size_is (goal.at.number_of-number-requires c).After-field_tokens-size) }

pub returns : goal.returns
returns c =
    sym (number_by c.args.sheet.now c.requires.accepted c.args.field (listed_are c.requires _ c.listed_kinds-kinds.ensures) (counts_are (goal.at.returns c).After-field-counts) (size_is (goal.at.returns c).After-field_tokens-size)
    (rw (fields_are c.requires.reads) at c.if-fields-field.false) c.if-size-gt-TOKENS.false c.number_of-number.ensures)
