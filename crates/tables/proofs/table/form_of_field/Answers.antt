use native.Mathlib.Omega.{arith}
use Rattle.tables.proofs.Tables.{formed_none, formed_room, formed_bound, formed_more}
use Rattle.tables.proofs.table.form_of_field.Goals as goal

pub loop-k-init : goal.loop-k-init
loop-k-init c = formed_none _ (omega arith) (omega arith) (c.fill.ensures.after (λ _ e. e))

pub add_times-requires : goal.add_times-requires
add_times-requires c =
    let h = c.loop-k.invariant in
    let l = c.loop-k-test.true in
    record { row_in_bounds = formed_room h c.row_of.ensures l; by_index = formed_bound h c.requires.by_index c.row_of.ensures l _ c.from.ensures }

pub loop-k-preserved : goal.loop-k-preserved
loop-k-preserved c =
    formed_more c.loop-k.invariant c.row_of.ensures _ c.from.ensures c.loop-k-test.true c.add_times.auto.sum c.add_times.ensures
