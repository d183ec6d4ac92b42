-- In which sense fields are compared, and what that asks of a row.
use Rattle.std.specs.Prelude.{◌≡◌}
use Rattle.model.specs.Field.{Field, tokens}
use Rattle.model.specs.Limits.{most_kinds}
use Rattle.model.specs.Sense as model
use Rattle.tables.specs.declared.sense.Sense.{Sense}
use Rattle.tables.specs.declared.sense.Sense.TheVariants.{Plain, Finer}

-- The sense that each case of the enum stands for.
abbrev pub sense_of : Sense → model.Sense
sense_of Plain = model.plain
sense_of Finer = model.finer

-- What a row shares with its kind beside the norm: in the finer sense the total, that of one token.
abbrev pub SharesTotal : model.Sense → Field → Type 0
SharesTotal model.plain row = Unit {0}
SharesTotal model.finer row = tokens most_kinds row ≡ 1
