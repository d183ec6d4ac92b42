-- What each return answers, by the tests on the way.
use native.Mathlib.Omega.{arith}
use Prim.Native.Nat.{◌<◌}
use Rattle.model.specs.Field.{tokens}
use Rattle.model.specs.Sheet.{kind_count, field_count, field_of}
use Rattle.sheet.proofs.Laws.{kinds_are, fields_are}
use Rattle.squads.proofs.Calls.{without_tokens, with_tokens, empty_squad, buffer_short, counted}
use Rattle.squads.proofs.entry.squads_accepted.Goals as goal
use Rattle.squads.proofs.entry.squads_accepted.Goals.{Else-is_empty, Start}

-- Both numbers are those of fields.
small : (c : Start) → (c.args.whole < field_count c.args.sheet.now) × (c.args.squad < field_count c.args.sheet.now)
small c = rw (← fields_are c.requires.reads.0) c.requires.whole_lt_fields

-- The squad has tokens.
some : (c : Else-is_empty) → 0 < tokens (kind_count c.args.sheet.now) (field_of c.args.sheet.now c.args.squad)
some c = with_tokens _ _ c.is_empty.ensures c.if-is_empty.false

pub returns-then-is_empty : goal.returns-then-is_empty
returns-then-is_empty c =
    let g = empty_squad _ _ _ _ c.requires.reads.1 (small (goal.at.returns-then-is_empty c).Start).0 (small (goal.at.returns-then-is_empty c).Start).1 (without_tokens _ _ c.is_empty.ensures c.if-is_empty.true) in
    record { result_value = g.0; remainder_after = g.1 }

pub returns-then-remainder-card : goal.returns-then-remainder-card
returns-then-remainder-card c =
    let g = buffer_short _ _ _ _ c.requires.reads.1 (small (goal.at.returns-then-remainder-card c).Start).0 (small (goal.at.returns-then-remainder-card c).Start).1 (some (goal.at.returns-then-remainder-card c).Else-is_empty) (omega (arith, kinds_are c.requires.reads.0, c.if-remainder-card.true)) in
    record { result_value = g.0; remainder_after = g.1 }

pub divide_forms-count-requires : goal.divide_forms-count-requires
divide_forms-count-requires c = record { reads = c.requires.reads; base_at = c.requires.base_at; whole_lt_fields = c.requires.whole_lt_fields; nonzero = some (goal.at.divide_forms-count-requires c).Else-is_empty; sheet_in_bounds = omega (arith, kinds_are c.requires.reads.0, c.if-remainder-card.false) }

pub returns : goal.returns
returns c =
    let g = counted _ _ _ _ c.requires.reads.1 (small (goal.at.returns c).Start).0 (small (goal.at.returns c).Start).1 (some (goal.at.returns c).Else-is_empty) _ _ (omega (arith, kinds_are c.requires.reads.0, c.if-remainder-card.false))
    c.divide_forms-count.ensures.value c.divide_forms-count.ensures.remainder_after in
    record { result_value = g.0; remainder_after = g.1 }
