-- The desk first, then the checks of the sheet and of the field numbers, then 13: a refusal is the call's, and a card is one that was read.
use mathlib.Core.Path.{sym}
use native.Mathlib.Omega.{arith}
use Prim.Native.Nat.{◌<◌}
use Rattle.std.proofs.lemmas.Result.{err_from_is_err_and}
use Rattle.model.specs.Sheet.{field_count}
use Rattle.theory.proofs.Answers.{demand1}
use Rattle.sheet.specs.Reader.{Reads}
use Rattle.sheet.proofs.Laws.{fields_are}
use Rattle.validation.proofs.Checking.{checked_reads}
use Rattle.validation.proofs.FieldNumbers.{fields_passed, numbers_passed, numbers_refused}
use Rattle.walker.proofs.Refusals.{sheet_found, fields_found, limit_found}
use Rattle.walker.proofs.entry.check_walk.Goals as goal
use Rattle.walker.proofs.entry.check_walk.Goals.{In_ok-card, In_ok-check_fields}

-- The card was read.
card_read : (c : In_ok-card) → Reads c.args.sheet.now c.in_ok-card.card
card_read c = checked_reads _ _ (sym c.in_ok-card.ensures)

-- The two numbers are fields'.
fields_there : (c : In_ok-check_fields) → (c.args.first < field_count c.args.sheet.now) × (c.args.second < field_count c.args.sheet.now)
fields_there c =
    let passed = fields_passed _ _ _ (numbers_passed _ _ _ _ c.in_ok-check_fields.ensures) in
    let e = fields_are (card_read (goal.at.In_ok-check_fields c).In_ok-card) in
    (omega (arith, passed.0, e), omega (arith, passed.1, e))

pub returns-then-desk-ge-DESKS-clause-found : goal.returns-then-desk-ge-DESKS-clause-found
returns-then-desk-ge-DESKS-clause-found c = sym ((demand1 _).walk_desk _ _ _ _ (omega (arith, c.if-desk-ge-DESKS.true)))

pub returns-in_err-card-clause-found : goal.returns-in_err-card-clause-found
returns-in_err-card-clause-found c =
    let p = err_from_is_err_and c.from_residual.result c.from_residual.ensures.1 in
    rw (p.1, p.2) (sheet_found _ _ _ _ _ (omega (arith, c.if-desk-ge-DESKS.false)) _ _ (sym c.in_err-card.ensures))

pub returns-in_err-check_fields-clause-found : goal.returns-in_err-check_fields-clause-found
returns-in_err-check_fields-clause-found c =
    let p = err_from_is_err_and c.from_residual-in_err-check_fields.result c.from_residual-in_err-check_fields.ensures.1 in
    let read = card_read (goal.at.returns-in_err-check_fields-clause-found c).In_ok-card in
    rw (p.1, p.2)
    (fields_found _ _ _ _ _ (omega (arith, c.if-desk-ge-DESKS.false)) read.passed _ _
    (rw (fields_are read) at (numbers_refused _ _ _ _ _ c.in_err-check_fields.ensures)))

pub returns-then-limit-gt-ROUNDS-clause-found : goal.returns-then-limit-gt-ROUNDS-clause-found
returns-then-limit-gt-ROUNDS-clause-found c =
    let read = card_read (goal.at.returns-then-limit-gt-ROUNDS-clause-found c).In_ok-card in
    let fields = fields_there (goal.at.returns-then-limit-gt-ROUNDS-clause-found c).In_ok-check_fields in
    limit_found _ _ _ _ _ (omega (arith, c.if-desk-ge-DESKS.false)) read.passed fields.0 fields.1 (omega (arith, c.if-limit-gt-ROUNDS.true))

pub returns-clause-found : goal.returns-clause-found
returns-clause-found c =
    let read = card_read (goal.at.returns-clause-found c).In_ok-card in
    let fields = fields_there (goal.at.returns-clause-found c).In_ok-check_fields in
    sym (((demand1 _).walk_taken _ _ _ _).1 (omega (arith, c.if-desk-ge-DESKS.false), read.passed, fields.0, fields.1, omega (arith, c.if-limit-gt-ROUNDS.false)))

pub returns-clause-read : goal.returns-clause-read
returns-clause-read c = card_read (goal.at.returns-clause-read c).In_ok-card
