-- After each turn the number is how often the counts of the kinds passed go in.
use mathlib.Core.Path.{◌≡◌}
use lib.ListN.{length}
use Rattle.model.specs.Field.{at}
use Rattle.quotients.proofs.Loops.{times_of}
use Rattle.quotients.proofs.times.times_in.Given as goal

abbrev pub invariant-loop-whole : goal.invariant-loop-whole
invariant-loop-whole l = l.times ≡ times_of 18446744073709551615 (at l.whole) (at l.squad) (length l.yielded)
