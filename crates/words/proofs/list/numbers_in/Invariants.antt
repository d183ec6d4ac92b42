-- `numbers_in`: the words before the rest said the first numbers of the array.
use lib.ListN.{length}
use Rattle.words.proofs.Texts.{Counting}
use Rattle.words.proofs.list.numbers_in.Given as goal

abbrev pub invariant-loop-end : goal.invariant-loop-end
invariant-loop-end l = Counting (length l.initial.values) l.text l.values l.rest l.count

abbrev pub decreases-loop-end : goal.decreases-loop-end
decreases-loop-end l = length l.rest
