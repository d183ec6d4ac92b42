use Rattle.std.proofs.Common.{arith}
use Rattle.stages.proofs.Keeping.{lowered_none, lowered_fits, lowered_more, lowered_all}
use Rattle.stages.proofs.kept.form_before.Goals as goal

pub loop-kind-init : goal.loop-kind-init
loop-kind-init c = lowered_none

pub add_before-requires-clause-by_index : goal.add_before-requires-clause-by_index
add_before-requires-clause-by_index c = lowered_fits c.loop-kind.invariant (omega (arith, c.requires.form_len.0)) c.requires.by_index

pub loop-kind-preserved : goal.loop-kind-preserved
loop-kind-preserved c = lowered_more c.loop-kind.invariant (omega (arith, c.requires.form_len.0)) c.add_before.auto.sum c.add_before.ensures

pub returns : goal.returns
returns c = lowered_all c.loop-kind.invariant (omega (arith, c.requires.form_len.0))
