-- `put_counts_line`: the first count, the others, the line's end.
use native.Mathlib.Omega.{arith}
use Rattle.text.proofs.Sequence.{line_of_none, line_of_some}
use Rattle.text.proofs.counts.put_counts_line.Goals as goal

pub returns-in_default : goal.returns-in_default
returns-in_default c = line_of_none c.args.counts.now (omega arith) c.put_byte.ensures

pub returns : goal.returns
returns c =
    let put-number = c.put_number-next in
    let put-each-count = c.put_each_count-last in
    line_of_some c.args.counts.now (omega arith) put-number.ensures put-each-count.ensures c.put_byte-2.ensures
