-- What each return answers, by the tests on the way, and what is written.
use Rattle.std.proofs.Common.{◌≡◌, ◌∙◌, ◌≤◌, length, arith}
use Rattle.std.proofs.lemmas.Result.{err_from_is_err_and}
use Rattle.model.specs.Card.{reached_count}
use Rattle.model.specs.Limits.{most_kinds}
use Rattle.model.specs.Sheet.{kind_count, card_of}
use Rattle.theory.proofs.Told.{gives}
use Rattle.norms.specs.Norms.{Accepts}
use Rattle.sheet.proofs.Laws.{kinds_are, kinds_most}
use Rattle.acceptance.proofs.Acceptances.{accepts, found_refused}
use Rattle.numbering.proofs.Listed.{listed_few, listed_count, listed_are, listed_order}
use Rattle.numbering.proofs.Calls.{field_refused, field_over, field_past, field_short, field_given}
use Rattle.numbering.proofs.field.shelf_field.Goals as goal
use Rattle.numbering.proofs.field.shelf_field.Goals.{After-listed_kinds-kinds, In_ok-acceptance}

accepted : (c : In_ok-acceptance) → Accepts c.args.sheet.now c.in_ok-acceptance.acceptance.card c.in_ok-acceptance.acceptance.norms
accepted c = accepts _ c.in_ok-acceptance.acceptance c.in_ok-acceptance.ensures

kinds : (c : In_ok-acceptance) → c.in_ok-acceptance.acceptance.card.kinds ≡ kind_count c.args.sheet.now
kinds c = kinds_are (accepted c).reads

few_kinds : (c : In_ok-acceptance) → c.in_ok-acceptance.acceptance.card.kinds ≤ most_kinds
few_kinds c = kinds_most (accepted c).reads

-- The kinds that were listed.
few : (c : After-listed_kinds-kinds) → length c.listed_kinds-kinds.result.now ≤ c.in_ok-acceptance.acceptance.card.kinds
few c =
    let A : Accepts c.args.sheet.now c.in_ok-acceptance.acceptance.card c.in_ok-acceptance.acceptance.norms = accepts _ c.in_ok-acceptance.acceptance c.in_ok-acceptance.ensures in
    listed_few A _ c.listed_kinds-kinds.ensures

count : (c : After-listed_kinds-kinds) → length c.listed_kinds-kinds.result.now ≡ reached_count (card_of c.args.sheet.now)
count c =
    let A : Accepts c.args.sheet.now c.in_ok-acceptance.acceptance.card c.in_ok-acceptance.acceptance.norms = accepts _ c.in_ok-acceptance.acceptance c.in_ok-acceptance.ensures in
    listed_count A _ c.listed_kinds-kinds.ensures

pub listed_kinds-kinds-requires : goal.listed_kinds-kinds-requires
listed_kinds-kinds-requires c = few_kinds (goal.at.listed_kinds-kinds-requires c).In_ok-acceptance

pub returns-in_err-acceptance : goal.returns-in_err-acceptance
returns-in_err-acceptance c =
    let p = err_from_is_err_and c.from_residual.result c.from_residual.ensures.1 in
    let g = gives (field_refused _ _ _ (found_refused _ _ _ c.in_err-acceptance.ensures) c.args.size c.args.number c.args.buffer.now) in
    record { result_value = rw (p.1, p.2) g.0; buffer_after = g.1 }

pub returns-then-size-gt-TOKENS : goal.returns-then-size-gt-TOKENS
returns-then-size-gt-TOKENS c =
    let g = gives (field_over _ (accepted (goal.at.returns-then-size-gt-TOKENS c).In_ok-acceptance).accepted c.args.size c.args.number c.args.buffer.now (omega (arith, c.if-size-gt-TOKENS.true))) in
    record { result_value = g.0; buffer_after = g.1 }

pub entry_of-requires : goal.entry_of-requires
entry_of-requires c = (omega (arith, few (goal.at.entry_of-requires c).After-listed_kinds-kinds, few_kinds (goal.at.entry_of-requires c).In_ok-acceptance), c.if-size-gt-TOKENS.false)

pub returns-then-entry_of-number : goal.returns-then-entry_of-number
returns-then-entry_of-number c =
    let g = gives (field_past _ (accepted (goal.at.returns-then-entry_of-number c).In_ok-acceptance).accepted c.args.size c.args.number c.args.buffer.now c.if-size-gt-TOKENS.false (omega (arith, rw (c.entry_of.ensures, count (goal.at.returns-then-entry_of-number c).After-listed_kinds-kinds) at c.if-entry_of-number.true))) in
    record { result_value = g.0; buffer_after = g.1 }

pub returns-then-buffer-n : goal.returns-then-buffer-n
returns-then-buffer-n c =
    let g = gives (field_short _ (accepted (goal.at.returns-then-buffer-n c).In_ok-acceptance).accepted c.args.size c.args.number c.args.buffer.now c.if-size-gt-TOKENS.false (rw (c.entry_of.ensures, count (goal.at.returns-then-buffer-n c).After-listed_kinds-kinds) at c.if-entry_of-number.false) (rw (kinds (goal.at.returns-then-buffer-n c).In_ok-acceptance) at c.if-buffer-n.true)) in
    record { result_value = g.0; buffer_after = g.1 }

pub write_field-requires : goal.write_field-requires
write_field-requires c =
    record { in_order = listed_order (accepted (goal.at.write_field-requires c).In_ok-acceptance) _ c.listed_kinds-kinds.ensures; counts_le_most_kinds = (few_kinds (goal.at.write_field-requires c).In_ok-acceptance, c.if-size-gt-TOKENS.false); number_bound = rw c.entry_of.ensures at c.if-entry_of-number.false; counts_in_bounds = c.if-buffer-n.false }

pub returns : goal.returns
returns c =
    let g = gives (field_given _ (accepted (goal.at.returns c).In_ok-acceptance).accepted _ _ _ c.if-size-gt-TOKENS.false
    (rw (c.entry_of.ensures, count (goal.at.returns c).After-listed_kinds-kinds) at c.if-entry_of-number.false) (rw (kinds (goal.at.returns c).In_ok-acceptance) at c.if-buffer-n.false)) in
    record { result_value = g.0; buffer_after = rw (kinds (goal.at.returns c).In_ok-acceptance, listed_are (accepted (goal.at.returns c).In_ok-acceptance) _ c.listed_kinds-kinds.ensures) at c.write_field.ensures ∙ g.1 }
