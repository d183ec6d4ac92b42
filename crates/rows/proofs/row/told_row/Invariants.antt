-- The lines before the one at hand are tried: none tells the row.
use Rattle.tables.specs.Senses.{sense_of}
use Rattle.rows.proofs.RowSearch.{Searched}
use Rattle.rows.proofs.row.told_row.Given as goal

abbrev pub invariant-loop-other : goal.invariant-loop-other
invariant-loop-other l = Searched (sense_of l.sense) l.lines l.classes l.forms l.kind l.line l.initial.rows l.rows l.other
