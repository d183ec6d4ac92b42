-- By the norms of both.
use Rattle.norms.specs.Norms.{lowers_norm}
use Rattle.norms.proofs.lines.lowers.Goals as goal

pub returns : goal.returns
unfolding lowers_norm
returns c = rw (c.left_norm.ensures, c.own_norm.ensures)
