use mathlib.Core.Path.{◌∙◌}
use Rattle.sheet.proofs.Laws.{lines_are, lines_most}
use Rattle.moves.proofs.Following.{follows_end}
use Rattle.moves.proofs.follow.fill_table.Goals as goal

pub fill_row-requires : goal.fill_row-requires
fill_row-requires c = (c.requires.1, lines_most c.requires.0)

pub loop-position-init : goal.loop-position-init
loop-position-init c = follows_end (lines_are c.requires.0) (c.fill_row.auto.table ∙ c.requires.1) c.fill_row.ensures
