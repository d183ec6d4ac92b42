-- The test of the rule, which antt computes over the whole table.
use Rattle.model.specs.Finite.{all, list_from, below}
use Rattle.shelf.specs.Rule.{ruled, obeys_rule}
use Rattle.shelf.proofs.entry.entries.Goals as goal

pub returns : goal.returns
unfolding all list_from below ruled obeys_rule
returns c = tt
