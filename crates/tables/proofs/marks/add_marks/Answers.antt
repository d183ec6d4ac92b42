use Rattle.tables.proofs.Marking.{marks_added_none}
use Rattle.tables.proofs.marks.add_marks.Goals as goal

pub loop-x-init : goal.loop-x-init
loop-x-init c = marks_added_none c.requires
