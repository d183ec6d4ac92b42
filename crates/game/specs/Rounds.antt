-- A part of the walk, counted: what each case of the enum stands for.
use Rattle.theory.specs.Counted.{Counted, holds, fails, spent}
use Rattle.game.specs.declared.rounds.Examined.{Examined}
use Rattle.game.specs.declared.rounds.Examined.TheVariants.{Holds, Fails, Spent}

abbrev pub counted_of : Examined → Counted
counted_of (Holds left) = holds left
counted_of (Fails left) = fails left
counted_of Spent = spent
