-- The lines before the one at hand have their numbers, and the list begins with the first lines of their classes.
use Rattle.tables.specs.Lines.{lines_in}
use Rattle.tables.specs.Match.{MatchBy}
use Rattle.ranks.specs.Order.{PrecedesBy}
use Rattle.ranks.proofs.Classing.{Classed}
use Rattle.ranks.proofs.classes.ordered_classes.Given as goal

abbrev pub invariant-loop-line : goal.invariant-loop-line
invariant-loop-line l = Classed (MatchBy l.effects) (PrecedesBy l.effects) (lines_in l.effects.lines) l.line l.numbers l.list l.found
