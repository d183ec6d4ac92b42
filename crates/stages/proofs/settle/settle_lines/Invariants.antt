-- The loop has reached the stage, and none up to it is settled. The measure is what is left of the kinds.
use Prim.Native.Nat.{◌-◌}
use Rattle.tables.specs.Senses.{sense_of}
use Rattle.stages.proofs.Unsettled.{Progress}
use Rattle.stages.proofs.settle.settle_lines.Given as goal

abbrev pub invariant-loop-sense : goal.invariant-loop-sense
invariant-loop-sense l = Progress (sense_of l.sense) l.sheet l.settled.stage l.forms l.settled.base.rows l.classes l.settled.base.since l.settled.before

abbrev pub decreases-loop-sense : goal.decreases-loop-sense
decreases-loop-sense l = l.card.kinds - l.settled.stage
