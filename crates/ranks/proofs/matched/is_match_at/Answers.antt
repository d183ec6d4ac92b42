-- The test of the line at the place decides, where the list has one.
use Rattle.ranks.proofs.Merging.{line_at}
use Rattle.ranks.proofs.matched.is_match_at.Goals as goal

pub matches-requires : goal.matches-requires
matches-requires c = record { line_bound = (c.requires.lines_of.1, rw c.from-other.ensures (line_at c.args.effects.now.lines c.args.others.now c.requires.lines_of.0 c.args.place c.if-place-others.true)) }
