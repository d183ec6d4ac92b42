use Rattle.row_sums.proofs.Taking.{taken_none}
use Rattle.row_sums.proofs.take.less_row.Goals as goal

pub loop-kind-init : goal.loop-kind-init
loop-kind-init c = taken_none
