-- Checks 1 to 8, then 9 and 10.
use Rattle.std.proofs.Common.{sym}
use Rattle.std.proofs.lemmas.Result.{err_from_is_err_and}
use Rattle.sheet.specs.Reader.{Reads}
use Rattle.sheet.proofs.Laws.{kinds_most}
use Rattle.acceptance.proofs.Acceptances.{sheet_refused, sheet_read, norms_refused, norms_passed}
use Rattle.acceptance.proofs.accept.accept.Goals as goal
use Rattle.acceptance.proofs.accept.accept.Goals.{In_ok-card}

-- The card was read from the sheet.
card_told : (c : In_ok-card) → Reads c.args.sheet.now c.in_ok-card.card
card_told c = sheet_read _ _ (sym c.in_ok-card.ensures)

pub reached_kinds-reached-requires : goal.reached_kinds-reached-requires
reached_kinds-reached-requires c = card_told (goal.at.reached_kinds-reached-requires c).In_ok-card

pub kind_norms-norms-requires : goal.kind_norms-norms-requires
kind_norms-norms-requires c = record { reads = card_told (goal.at.kind_norms-norms-requires c).In_ok-card; by_index = c.reached_kinds-reached.ensures }

pub check_norms-requires : goal.check_norms-requires
check_norms-requires c = kinds_most (card_told (goal.at.check_norms-requires c).In_ok-card)

pub returns-in_err-card : goal.returns-in_err-card
returns-in_err-card c =
    let p = err_from_is_err_and c.from_residual.result c.from_residual.ensures.1 in
    rw (p.1, p.2) (sheet_refused _ _ _ (sym c.in_err-card.ensures))

pub returns-in_err-check_norms : goal.returns-in_err-check_norms
returns-in_err-check_norms c =
    let p = err_from_is_err_and c.from_residual-in_err-check_norms.result c.from_residual-in_err-check_norms.ensures.1 in
    rw (p.1, p.2)
    (norms_refused (card_told (goal.at.returns-in_err-check_norms c).In_ok-card) _ c.reached_kinds-reached.ensures _ c.kind_norms-norms.ensures _ _ (sym c.in_err-check_norms.ensures))

pub returns : goal.returns
returns c = norms_passed (card_told (goal.at.returns c).In_ok-card) _ c.reached_kinds-reached.ensures _ c.kind_norms-norms.ensures (sym c.in_ok-check_norms.ensures)
