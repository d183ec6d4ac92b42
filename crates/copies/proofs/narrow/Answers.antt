use mathlib.Core.Path.{refl}
use Rattle.theory.proofs.Writing.{begun_none, begun_more, begun_all}
use Rattle.copies.proofs.narrow.Goals as goal

pub loop-i-init : goal.loop-i-init
loop-i-init c = begun_none _ _ c.requires.values_in_bounds

pub loop-i-preserved : goal.loop-i-preserved
loop-i-preserved c = begun_more c.loop-i.invariant _ c.loop-i-test.true refl

pub returns : goal.returns
returns c = begun_all c.loop-i.invariant c.loop-i-test.false
