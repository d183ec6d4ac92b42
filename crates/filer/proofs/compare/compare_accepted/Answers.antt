-- The settlement tells what each return answers.
use native.Mathlib.Omega.{arith}
use mathlib.Core.Path.{sym, ◌∙◌}
use Prim.Native.Nat.{◌<◌}
use Rattle.theory.specs.Widths.{Bytes}
use Rattle.validation.proofs.FieldNumbers.{fields_passed, numbers_passed, numbers_refused}
use Rattle.filer.proofs.Settlements.{compare_refuses, compare_same_called, compare_rounds_fit, compare_different_called}
use Rattle.filer.proofs.compare.compare_accepted.Goals as goal
use Rattle.filer.proofs.compare.compare_accepted.Goals.{In_default}

-- Where the check has passed: both numbers are fields of the card.
passed : (c : In_default) → (c.args.first < c.args.settlement.now.card.fields) × (c.args.second < c.args.settlement.now.card.fields)
passed c = fields_passed _ _ _ (numbers_passed _ _ _ _ c.in_default.ensures)

bytes : (c : In_default) → Bytes c.args.sheet.now
bytes c = λ k. omega (arith, c.type_inv.sheet k)

pub returns-in-Err : goal.returns-in-Err
returns-in-Err c = c.from.ensures ∙ compare_refuses c.requires _ _ _ _ (sym (numbers_refused _ _ _ _ _ c.in-Err.ensures))

pub parted-stage-requires : goal.parted-stage-requires
parted-stage-requires c =
    record { accepts = c.requires.accepts; settled = c.requires.settled_is; first_lt_fields = passed (goal.at.parted-stage-requires c).In_default }

pub returns-then-settled-stage : goal.returns-then-settled-stage
returns-then-settled-stage c =
    let told = passed (goal.at.returns-then-settled-stage c).In_default in
    compare_same_called c.requires _ _ told.0 told.1 _ c.parted-stage.ensures c.if-settled-stage.true

pub rounds_at-rounds-requires : goal.rounds_at-rounds-requires
rounds_at-rounds-requires c =
    let told = passed (goal.at.rounds_at-rounds-requires c).In_default in
    record { accepts = c.requires.accepts; first_lt_fields = told; second_bound = compare_rounds_fit c.requires _ _ told.0 told.1 _ c.parted-stage.ensures c.if-settled-stage.false (bytes (goal.at.rounds_at-rounds-requires c).In_default) }

pub returns : goal.returns
returns c =
    let told = passed (goal.at.returns c).In_default in
    compare_different_called c.requires _ _ told.0 told.1 _ c.parted-stage.ensures c.if-settled-stage.false _ c.rounds_at-rounds.ensures
