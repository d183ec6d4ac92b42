-- The three parts of the checks, one after the other.
use mathlib.Core.Path.{◌≡◌, sym}
use Rattle.std.proofs.lemmas.Result.{err_from_is_err_and}
use Rattle.model.specs.Refusal.{clear, first_of}
use Rattle.sheet.specs.Reader.{header_of, number_checks}
use Rattle.validation.proofs.Checking.{refused_found, passed_found, numbers_refuse, layout_refuse, header_passes, lines_refuse, lines_decide}
use Rattle.validation.proofs.checks.check_sheet.Goals as goal
use Rattle.validation.proofs.checks.check_sheet.Goals.{In_ok-card}

-- What a card tells that passed the first part.
numbers_told : (c : In_ok-card) → (c.in_ok-card.card ≡ header_of c.args.sheet.now) × (first_of (number_checks c.args.sheet.now) ≡ clear)
numbers_told c = passed_found _ _ _ (sym (c.in_ok-card.ensures))

pub check_layout-requires : goal.check_layout-requires
check_layout-requires c = let t = numbers_told c in record { card_value = t.0; sheet_value = t.1 }

pub check_lines-requires : goal.check_lines-requires
check_lines-requires c =
    let t = numbers_told (goal.at.check_lines-requires c).In_ok-card in
    record { card_value = t.0; sheet_value = header_passes _ t.1 (sym (c.in_ok-check_layout.ensures)) }

pub returns-in_err-card : goal.returns-in_err-card
returns-in_err-card c =
    let p = err_from_is_err_and c.from_residual.result c.from_residual.ensures.1 in
    rw (p.1, p.2) (numbers_refuse _ _ _ (refused_found _ _ _ _ (sym c.in_err-card.ensures)))

pub returns-in_err-check_layout : goal.returns-in_err-check_layout
returns-in_err-check_layout c =
    let p = err_from_is_err_and c.from_residual-in_err-check_layout.result c.from_residual-in_err-check_layout.ensures.1 in
    let t = numbers_told (goal.at.returns-in_err-check_layout c).In_ok-card in
    rw (p.1, p.2) (layout_refuse _ t.1 _ _ (sym c.in_err-check_layout.ensures))

pub returns-in_err-check_lines : goal.returns-in_err-check_lines
returns-in_err-check_lines c =
    let p = err_from_is_err_and c.from_residual-in_err-check_lines.result c.from_residual-in_err-check_lines.ensures.1 in
    let t = numbers_told (goal.at.returns-in_err-check_lines c).In_ok-card in
    rw (p.1, p.2) (lines_refuse _ t.1 (sym c.in_ok-check_layout.ensures) _ _ (sym c.in_err-check_lines.ensures))

pub returns : goal.returns
returns c =
    let t = numbers_told (goal.at.returns c).In_ok-card in
    lines_decide _ t.1 (sym (c.in_ok-check_layout.ensures)) _ t.0 (sym (c.in_ok-check_lines.ensures))
