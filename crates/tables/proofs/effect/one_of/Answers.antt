-- One token of a kind has one of that kind and none of any other.
use mathlib.Core.Path.{sym}
use native.Mathlib.Omega.{arith}
use Rattle.theory.proofs.Field.{unit_other}
use Rattle.tables.proofs.Tables.{unit_here}
use Rattle.tables.proofs.effect.one_of.Goals as goal

pub returns-then-other-kind : goal.returns-then-other-kind
returns-then-other-kind c = (sym (unit_here _ _ c.if-other-kind.true), omega arith)

pub returns-else-other-kind : goal.returns-else-other-kind
returns-else-other-kind c = (sym (unit_other _ _ c.if-other-kind.false), omega arith)
