use mathlib.Core.Path.{◌≡◌, subst}
use native.Mathlib.Omega.{arith}
use Rattle.part_sheet.specs.Bytes.{Copied}
use Rattle.part_sheet.proofs.Copying.{copied_none, copied_more}
use Rattle.part_sheet.proofs.bytes.copy_bytes.Goals as goal

pub loop-i-init : goal.loop-i-init
loop-i-init c = copied_none _ _ _ _

pub loop-i-preserved : goal.loop-i-preserved
loop-i-preserved c = copied_more c.loop-i.invariant (omega arith)

pub returns : goal.returns
returns c =
    let args = c.args in
    let e : c.loop-i.i ≡ args.count = omega arith in
    subst (λ n. Copied args.source.now args.from args.target.now args.to n c.loop-i.target) e c.loop-i.invariant
