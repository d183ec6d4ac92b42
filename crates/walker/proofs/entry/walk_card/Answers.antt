-- A call that passes its checks walks.
use borrow.Author.Rules.{rules}
use native.Mathlib.Omega.{arith}
use mathlib.Core.Path.{ap, ◌∙◌}
use Rattle.model.specs.Field.{at}
use Rattle.theory.proofs.Answers.{demand1}
use Rattle.sheet.proofs.Laws.{Bytes, fields_are, field_counts_at}
use Rattle.walker.specs.Answers.{session_of}
use Rattle.moves.proofs.Fields.{field_bounded}
use Rattle.walker.proofs.Tries.{plays_most}
use Rattle.walker.proofs.Refusals.{call_walks}
use Rattle.walker.proofs.entry.walk_card.Goals as goal

pub try_rounds-played-requires : goal.try_rounds-played-requires
try_rounds-played-requires c =
    let a = c.args in
    let read = c.requires.reads in
    let taken = ((demand1 _).walk_taken _ _ _ _).0 c.requires.passed in
    let bytes : Bytes a.sheet.now = λ k. search rules in
    record {
      reads = (read, c.fill_table.ensures);
      limit_le_most_rounds = taken.4;
      bounded = (
        field_bounded read a.first _ c.field-first_field.ensures bytes,
        field_bounded read a.second _ c.field-second_field.ensures bytes,
      );
    }

pub left_of-allowance-requires : goal.left_of-allowance-requires
left_of-allowance-requires c = (((demand1 _).walk_taken _ _ _ _).0 c.requires.passed).0

pub draw-requires : goal.draw-requires
draw-requires c =
    record {
      desk_le_last_desk = (((demand1 _).walk_taken _ _ _ _).0 c.requires.passed).0;
      drawn_bound = omega (arith, plays_most c.try_rounds-played.result _ _ c.try_rounds-played.ensures, c.left_of-allowance.ensures);
    }

pub returns : goal.returns
returns c =
    let a = c.args in
    c.draw.ensures
    ∙ call_walks a.sheet.now a.first a.second a.limit a.desk (session_of a.session) c.requires.passed _ _ _
    (ap at c.field-first_field.ensures ∙ field_counts_at c.requires.reads a.first)
    (ap at c.field-second_field.ensures ∙ field_counts_at c.requires.reads a.second)
    c.left_of-allowance.ensures c.try_rounds-played.result c.try_rounds-played.ensures

pub field-first_field-requires-clause-field_lt_fields : goal.field-first_field-requires-clause-field_lt_fields
field-first_field-requires-clause-field_lt_fields c = omega (arith, fields_are c.requires.reads, (((demand1 _).walk_taken _ _ _ _).0 c.requires.passed).2)

pub field-second_field-requires-clause-field_lt_fields : goal.field-second_field-requires-clause-field_lt_fields
field-second_field-requires-clause-field_lt_fields c = omega (arith, fields_are c.requires.reads, (((demand1 _).walk_taken _ _ _ _).0 c.requires.passed).3)
