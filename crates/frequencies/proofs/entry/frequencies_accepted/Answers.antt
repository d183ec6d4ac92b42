-- What each return answers, by the tests on the way, and what is written.
use mathlib.Core.List.{List}
use mathlib.Core.Path.{◌≡◌, ap}
use Prim.Native.Nat.{ℕ, ◌≤◌}
use native.Mathlib.Omega.{arith}
use lib.ListN.{length}
use Rattle.model.specs.Shelf.{entry}
use Rattle.numbering.specs.Kinds.{normed_kinds}
use Rattle.model.specs.Card.{reached_count}
use Rattle.model.specs.Sheet.{card_of}
use Rattle.sheet.proofs.Laws.{kinds_are, kinds_most, fields_are}
use Rattle.numbering.proofs.Listed.{listed_few, listed_count, listed_are, listed_order}
use Rattle.frequencies.proofs.Calls.{no_field, size_over, too_many, buffer_short, counts_written}
use Rattle.frequencies.proofs.entry.frequencies_accepted.Goals as goal
use Rattle.frequencies.proofs.entry.frequencies_accepted.Goals.{Start}

-- The kinds that were listed.
few : (start : Start) (listed : List ℕ) → listed ≡ normed_kinds start.args.card.kinds start.args.norms → length listed ≤ start.args.card.kinds
few start listed lists = listed_few start.requires listed lists

entry_count : (start : Start) (listed : List ℕ) → listed ≡ normed_kinds start.args.card.kinds start.args.norms
    → entry (length listed) start.args.size ≡ entry (reached_count (card_of start.args.sheet.now)) start.args.size
entry_count start listed lists = ap (λ (k : ℕ). entry k start.args.size) (listed_count start.requires listed lists)

pub returns-then-fields-field : goal.returns-then-fields-field
returns-then-fields-field c =
    let g = no_field _ _ _ _ c.requires.accepted (omega (arith, c.if-fields-field.true, fields_are c.requires.reads)) in
    record { result_value = g.0; buffer_after = g.1 }

pub returns-then-size-gt-TOKENS : goal.returns-then-size-gt-TOKENS
returns-then-size-gt-TOKENS c =
    let g = size_over _ _ _ _ c.requires.accepted (omega (arith, c.if-fields-field.false, fields_are c.requires.reads)) (omega (arith, c.if-size-gt-TOKENS.true)) in
    record { result_value = g.0; buffer_after = g.1 }

pub listed_kinds-kinds-requires : goal.listed_kinds-kinds-requires
listed_kinds-kinds-requires c = kinds_most c.requires.reads

pub entry_of-requires : goal.entry_of-requires
entry_of-requires c =
    (omega (arith, few (goal.at.entry_of-requires c).Start _ c.listed_kinds-kinds.ensures, kinds_most c.requires.reads), c.if-size-gt-TOKENS.false)

pub returns-then-entry_of-gt-LISTED : goal.returns-then-entry_of-gt-LISTED
returns-then-entry_of-gt-LISTED c =
    let g = too_many _ _ _ _ c.requires.accepted (omega (arith, c.if-fields-field.false, fields_are c.requires.reads)) c.if-size-gt-TOKENS.false
    (omega (arith, c.if-entry_of-gt-LISTED.true, c.entry_of.ensures, entry_count (goal.at.returns-then-entry_of-gt-LISTED c).Start _ c.listed_kinds-kinds.ensures)) in
    record { result_value = g.0; buffer_after = g.1 }

pub overflow_add-n : goal.overflow_add-n
overflow_add-n c = omega (arith, kinds_most c.requires.reads)

pub returns-then-buffer-n : goal.returns-then-buffer-n
returns-then-buffer-n c =
    let g = buffer_short _ _ _ _ c.requires.accepted (omega (arith, c.if-fields-field.false, fields_are c.requires.reads)) c.if-size-gt-TOKENS.false
    (omega (arith, c.if-entry_of-gt-LISTED.false, c.entry_of.ensures, entry_count (goal.at.returns-then-buffer-n c).Start _ c.listed_kinds-kinds.ensures))
    (omega (arith, c.if-buffer-n.true, kinds_are c.requires.reads)) in
    record { result_value = g.0; buffer_after = g.1 }

pub count_answers-requires : goal.count_answers-requires
count_answers-requires c =
    let listed = c.listed_kinds-kinds in record { accepts = c.requires; kinds_value = (listed_are c.requires _ listed.ensures, listed_order c.requires _ listed.ensures); field_lt_fields = (omega (arith, c.if-fields-field.false), c.if-size-gt-TOKENS.false); size_bound = omega (arith, c.if-entry_of-gt-LISTED.false, c.entry_of.ensures, entry_count (goal.at.count_answers-requires c).Start _ listed.ensures); sheet_in_bounds = omega (arith, c.if-buffer-n.false, kinds_are c.requires.reads) }

pub returns : goal.returns
returns c =
    let listed = c.listed_kinds-kinds in
    let g = counts_written _ _ _ _ c.requires.accepted (omega (arith, c.if-fields-field.false, fields_are c.requires.reads)) c.if-size-gt-TOKENS.false
    (omega (arith, c.if-entry_of-gt-LISTED.false, c.entry_of.ensures, entry_count (goal.at.returns c).Start _ listed.ensures)) _
    (omega (arith, c.if-buffer-n.false, kinds_are c.requires.reads)) c.count_answers.ensures in
    record { result_value = g.0; buffer_after = g.1 }
