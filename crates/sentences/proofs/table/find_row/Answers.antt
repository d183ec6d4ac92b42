-- `find_row`: what the code's rows say is the table, row by row, by computation.
use mathlib.Core.Path.{refl}
use Rattle.model.specs.Page.{bytes, newline}
use Rattle.sentences.specs.Sentence.{sentences}
use Rattle.sentences.proofs.Rows.{said_of_table}
use Rattle.sentences.proofs.table.find_row.Goals as goal

pub returns : goal.returns
unfolding sentences bytes newline
returns c = said_of_table c.args.number c.args.place _ c.find_in.ensures refl
