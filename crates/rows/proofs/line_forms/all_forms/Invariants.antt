-- The forms of the lines before the one at hand are written.
use Rattle.rows.proofs.LineForms.{Formed}
use Rattle.rows.proofs.line_forms.all_forms.Given as goal

abbrev pub invariant-loop-line : goal.invariant-loop-line
invariant-loop-line l = Formed l.sheet l.rows l.lines l.initial.forms l.forms l.line
