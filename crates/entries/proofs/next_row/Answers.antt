use native.Mathlib.Omega.{arith}
use Rattle.entries.proofs.Rows.{none_new, sum_fits, one_new, all_new}
use Rattle.entries.proofs.next_row.Goals as goal

pub loop-t-init : goal.loop-t-init
loop-t-init c = λ k. none_new k

pub overflow_add-row : goal.overflow_add-row
overflow_add-row c =
    omega (arith, sum_fits c.requires.0 c.loop-t.t (c.loop-t.invariant c.requires.0 c.requires.2) (omega arith) (omega arith) c.requires.1)

pub loop-t-preserved : goal.loop-t-preserved
loop-t-preserved c =
    λ k e. one_new k c.loop-t.t (c.loop-t.invariant k e) (omega arith) (omega arith)

pub returns : goal.returns
returns c = λ k e. all_new k c.loop-t.t (c.loop-t.invariant k e) (omega arith)
