-- Without a token of the kind nothing changes; with one, its count is one less.
use native.Mathlib.Omega.{arith}
use lib.ListN.{get_or-eq_default}
use Rattle.moves.proofs.Fields.{less_none, less_set}
use Rattle.moves.proofs.fire.less_one.Goals as goal

pub returns-then-field-kind : goal.returns-then-field-kind
returns-then-field-kind c = let a = c.args in less_none a.field.now a.kind (get_or-eq_default a.field.now 0 {n = a.kind} (omega arith))

pub returns-then-tokens-gt0 : goal.returns-then-tokens-gt0
returns-then-tokens-gt0 c = let a = c.args in less_set a.field.now a.kind (omega arith)

pub returns-else-tokens-gt0 : goal.returns-else-tokens-gt0
returns-else-tokens-gt0 c = let a = c.args in less_none a.field.now a.kind (omega arith)
