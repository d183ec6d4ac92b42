-- The forms of the lines before the one at hand are written.
use Rattle.rows.proofs.LineForms.{ListFormed}
use Rattle.rows.proofs.line_forms.list_forms.Given as goal

abbrev pub invariant-loop-line : goal.invariant-loop-line
invariant-loop-line l = ListFormed l.sheet l.rows l.list l.initial.forms l.forms l.line-index
