use borrow.Author.Rules.{rules}
use mathlib.Core.Path.{refl}
use native.Mathlib.Omega.{arith}
use Rattle.frequencies.proofs.Rows.{norm_rows_none, norm_rows_more}
use Rattle.frequencies.proofs.related.norm_rows.Goals as goal

pub loop-kind-init : goal.loop-kind-init
loop-kind-init c = norm_rows_none refl (search rules)

pub loop-kind-preserved : goal.loop-kind-preserved
loop-kind-preserved c = norm_rows_more c.loop-kind.invariant (omega arith) c.from.ensures

pub returns : goal.returns
returns c = λ k h. c.loop-kind.invariant.set_rows k (omega arith)
