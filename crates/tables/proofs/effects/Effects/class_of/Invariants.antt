-- No line before the one at hand matches.
use Rattle.tables.specs.Match.{NoneBefore, MatchBy}
use Rattle.tables.proofs.effects.Effects.class_of.Given as goal

abbrev pub invariant-loop-earlier : goal.invariant-loop-earlier
invariant-loop-earlier l = NoneBefore (MatchBy l.self) l.line l.earlier
