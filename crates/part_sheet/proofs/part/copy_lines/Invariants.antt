-- Of the lines passed those of reached kinds are taken.
use Rattle.part_sheet.proofs.Lines.{Taken}
use Rattle.part_sheet.proofs.part.copy_lines.Given as goal

abbrev pub invariant-loop-line : goal.invariant-loop-line
invariant-loop-line l = Taken l.sheet l.initial.part l.line l.count l.part
