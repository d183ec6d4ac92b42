use native.Mathlib.Omega.{arith}
use Rattle.norms.proofs.Gains.{gain_start, gain_more, gain_end}
use Rattle.norms.proofs.lines.gain.Goals as goal

pub loop-j-init : goal.loop-j-init
loop-j-init c = gain_start c.args.sheet.now c.args.card.lines

pub loop-j-preserved : goal.loop-j-preserved
loop-j-preserved c =
    let args = c.args in
    let loop = c.loop-j in
    gain_more args.sheet.now args.card.lines loop.j loop.most c.line_gain.result c.max-most.result (omega arith) (omega arith) loop.invariant
    c.line_gain.ensures c.max-most.ensures

pub returns : goal.returns
returns c =
    gain_end c.requires.reads c.loop-j.j c.loop-j.most (omega arith) c.loop-j.invariant
