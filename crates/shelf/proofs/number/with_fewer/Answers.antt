-- The difference of two entries, the second of a smaller size.
use native.Mathlib.Omega.{arith}
use Rattle.shelf.proofs.Entries.{entry_smaller}
use Rattle.shelf.proofs.number.with_fewer.Goals as goal

pub overflow_sub-result : goal.overflow_sub-result
overflow_sub-result c =
    let args = c.args in
    omega (arith, entry_smaller args.kinds args.tokens args.count (omega arith) (omega arith))

pub returns : goal.returns
returns c =
    let args = c.args in
    omega (arith, entry_smaller args.kinds args.tokens args.count (omega arith) (omega arith))
