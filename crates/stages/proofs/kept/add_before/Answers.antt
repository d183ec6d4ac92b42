use native.Mathlib.Omega.{arith}
use Rattle.stages.proofs.Keeping.{added_new, added_old, new_fits, old_fits, row_long}
use Rattle.stages.proofs.kept.add_before.Goals as goal

pub add_times-requires : goal.add_times-requires
add_times-requires c = record { row_in_bounds = omega (arith, row_long c.args.rows.now c.args.kind (omega (arith, c.requires.sum_len.2, c.requires.sum_len.3)) c.row_of.ensures, c.requires.sum_len.0); by_index = new_fits c.args.since.now c.args.rows.now c.args.stage c.args.kind c.args.count c.args.sum.now c.if-from-stage.true c.row_of.ensures c.requires.by_index }

pub returns-then-from-stage : goal.returns-then-from-stage
returns-then-from-stage c =
    let if1 = c.if-from-stage in
    added_new c.args.since.now c.args.rows.now c.args.stage c.args.kind c.args.count c.args.sum.now c.add_times.new.sum if1.true c.row_of.ensures c.add_times.ensures

pub overflow_add-sum : goal.overflow_add-sum
overflow_add-sum c =
    record { fits = old_fits c.args.since.now c.args.rows.now c.args.stage c.args.kind c.args.count c.args.sum.now c.if-from-stage.false c.requires.by_index }

pub returns : goal.returns
returns c =
    added_old c.args.since.now c.args.rows.now c.args.stage c.args.kind c.args.count c.args.sum.now c.if-from-stage.false (omega (arith, c.requires.sum_len.0, c.requires.sum_len.3))
