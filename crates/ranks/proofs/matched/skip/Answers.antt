use borrow.Author.Rules.{rules}
use native.Mathlib.Omega.{arith}
use Rattle.ranks.proofs.Merging.{line_at}
use Rattle.ranks.proofs.matched.skip.Goals as goal

pub precedes-requires : goal.precedes-requires
precedes-requires c =
    let its-line = line_at c.args.effects.now.lines c.args.others.now c.requires.lines_of.0 c.loop-place.place (omega (arith, c.loop-place-test.true)) in
    search rules
