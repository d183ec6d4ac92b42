-- The counts of the places up to this stage are set.
use Rattle.frequencies.proofs.Places.{PlacedTo}
use Rattle.frequencies.proofs.entry.write_places.Given as goal

abbrev pub invariant-loop-stage : goal.invariant-loop-stage
invariant-loop-stage l = PlacedTo l.all l.related l.kinds l.counts l.before l.stage
