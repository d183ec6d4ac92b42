-- A byte is compared with 1.
use borrow.Author.Tests.{eqb-true, eq-eqb}
use Rattle.tables.specs.Lines.{LowersIn}
use Rattle.tables.proofs.lines.lowers.Goals as goal

pub returns : goal.returns
unfolding LowersIn
returns c = (λ e. eqb-true _ _ e, λ e. eq-eqb _ _ e)
