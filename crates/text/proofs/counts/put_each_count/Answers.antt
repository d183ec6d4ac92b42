use native.Mathlib.Omega.{arith}
use Rattle.text.specs.Lengths.{most_count}
use Rattle.text.proofs.Sequence.{no_text, next_text, count_at, counts_all}
use Rattle.text.proofs.counts.put_each_count.Goals as goal

pub loop-count-init : goal.loop-count-init
loop-count-init c = no_text (count_at c.args.counts.now) most_count 0 c.args.out.now c.args.at

pub put_count-next-requires : goal.put_count-next-requires
put_count-next-requires c =
    let so_far = c.loop-count.invariant in
    omega (arith, so_far.ends, so_far.size, so_far.within)

pub loop-count-preserved : goal.loop-count-preserved
loop-count-preserved c = next_text (count_at c.args.counts.now) 0 c.loop-count.count-index c.loop-count.invariant c.put_count-next.ensures (omega arith)

pub shape_of-out : goal.shape_of-out
shape_of-out c = c.loop-count.invariant.size

pub returns : goal.returns
returns c = counts_all c.args.counts.now (omega arith) c.loop-count.invariant
