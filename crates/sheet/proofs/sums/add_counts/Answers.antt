use mathlib.Core.Path.{◌≡◌, refl, ◌∙◌}
use native.Mathlib.Omega.{arith}
use lib.ListN.{length, length-set}
use Rattle.sheet.proofs.Plus.{plus_none, plus_all, plus_unread, plus_more}
use Rattle.sheet.proofs.sums.add_counts.Goals as goal

pub loop-k-init : goal.loop-k-init
loop-k-init c = (refl, plus_none c.args.field.now c.args.counts.now)

-- A count of the field that is not reached is as it was.
pub overflow_add-field : goal.overflow_add-field
overflow_add-field c =
    let args = c.args in
    let loop = c.loop-k in
    omega (arith, plus_unread args.field.now args.counts.now loop.field loop.k (omega arith) loop.invariant.1, c.requires.fits loop.k)

pub loop-k-preserved : goal.loop-k-preserved
loop-k-preserved c =
    let args = c.args in
    let loop = c.loop-k in
    (simp length-set (omega arith), plus_more args.field.now args.counts.now loop.field loop.k (omega arith) loop.invariant.1 c.from.result c.from.ensures)

pub returns : goal.returns
returns c =
    let args = c.args in
    let e : c.loop-k.k ≡ length args.counts.now = omega arith in
    (rw e at c.loop-k.invariant.1) ∙ plus_all args.field.now args.counts.now
