-- The bytes passed are copied.
use Rattle.part_sheet.specs.Bytes.{Copied}
use Rattle.part_sheet.proofs.bytes.copy_bytes.Given as goal

abbrev pub invariant-loop-i : goal.invariant-loop-i
invariant-loop-i l = Copied l.source l.from l.initial.target l.to l.i l.target
