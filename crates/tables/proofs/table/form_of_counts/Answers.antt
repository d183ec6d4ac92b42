use native.Mathlib.Omega.{arith}
use mathlib.Core.Path.{refl}
use Rattle.tables.specs.Table.{row_in}
use Rattle.tables.proofs.Tables.{formed_none, formed_bound, formed_more}
use Rattle.tables.proofs.table.form_of_counts.Goals as goal

pub loop-k-init : goal.loop-k-init
loop-k-init c = formed_none _ (omega arith) (omega arith) (c.fill.ensures.after (λ _ e. e))

pub add_row-requires-clause-by_index : goal.add_row-requires-clause-by_index
unfolding row_in
add_row-requires-clause-by_index c = formed_bound c.loop-k.invariant c.requires.by_index refl c.loop-k-test.true _ c.from.ensures

pub loop-k-preserved : goal.loop-k-preserved
unfolding row_in
loop-k-preserved c =
    formed_more c.loop-k.invariant refl _ c.from.ensures c.loop-k-test.true c.add_row.auto.sum c.add_row.ensures
