-- `put_row_of`: the row that is handed out, or the refusal of the check.
use mathlib.Core.Path.{ap}
use Rattle.model.specs.Refusal.{Finding}
use Rattle.replies.specs.Told.{told}
use Rattle.verbs.specs.Texts.{row_in}
use Rattle.replies.proofs.Replies.{tells_answer, told_as}
use Rattle.verbs.proofs.settle.put_row_of.Goals as goal

pub returns-in-Ok : goal.returns-in-Ok
unfolding row_in
returns-in-Ok c =
    told_as _ (tells_answer c.put_row-length.ensures _ c.answered.ensures) (ap (λ (f : Finding). told (row_in c.args.kinds c.args.kind c.args.table.now f)) c.in-Ok.ensures)

pub returns-in-Err : goal.returns-in-Err
unfolding row_in
returns-in-Err c =
    told_as _ c.refuse.ensures (ap (λ (f : Finding). told (row_in c.args.kinds c.args.kind c.args.table.now f)) c.in-Err.ensures)
