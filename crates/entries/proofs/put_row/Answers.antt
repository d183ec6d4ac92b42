use native.Mathlib.Omega.{arith}
use Rattle.text.proofs.Sequence.{no_text, next_text}
use Rattle.entries.proofs.Lines.{line_at, lines_all}
use Rattle.entries.proofs.put_row.Goals as goal

pub loop-entry-init : goal.loop-entry-init
loop-entry-init c = no_text (line_at c.args.row.now) 26 0 c.args.out.now c.args.at

pub put_entry-next-requires : goal.put_entry-next-requires
put_entry-next-requires c =
    let so_far = c.loop-entry.invariant in
    omega (arith, so_far.ends, so_far.size, so_far.within)

pub loop-entry-preserved : goal.loop-entry-preserved
loop-entry-preserved c =
    next_text (line_at c.args.row.now) 0 c.loop-entry.entry-index c.loop-entry.invariant c.put_entry-next.ensures (omega arith)

pub shape_of-out : goal.shape_of-out
shape_of-out c = c.loop-entry.invariant.size

pub returns : goal.returns
returns c =
    lines_all c.args.row.now (omega arith) c.loop-entry.invariant
