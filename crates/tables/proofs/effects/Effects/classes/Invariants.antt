-- The lines before the one at hand have their numbers.
use Rattle.tables.specs.Lines.{lines_in}
use Rattle.tables.specs.Match.{MatchBy}
use Rattle.tables.proofs.Matching.{Numbered}
use Rattle.tables.proofs.effects.Effects.classes.Given as goal

abbrev pub invariant-loop-line : goal.invariant-loop-line
invariant-loop-line l = Numbered (MatchBy l.self) (lines_in l.self.lines) l.line l.numbers
