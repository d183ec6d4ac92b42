use borrow.Author.Rules.{rules}
use mathlib.Core.Path.{◌≡◌, refl, ◌∙◌}
use Prim.Native.Nat.{◌≤◌}
use native.Mathlib.Omega.{arith}
use lib.ListN.{length, length-set}
use Rattle.model.specs.Finite.{keep, list_from, below}
use Rattle.numbering.specs.Kinds.{normed_kinds}
use Rattle.numbering.proofs.Listed.{stored_more, stored_skip}
use Rattle.numbering.proofs.kinds.listed_kinds.Goals as goal
use Rattle.numbering.proofs.kinds.listed_kinds.Goals.{then-norms-kind-ne0, else-norms-kind-ne0}

pub loop-kind-init : goal.loop-kind-init
unfolding normed_kinds keep below list_from
loop-kind-init c = (omega arith, search rules, record { many = refl; kinds = refl })

pub loop-kind-preserved : goal.loop-kind-preserved
loop-kind-preserved c =
    let norms = c.args.norms.now in
    let loop = c.loop-kind in
    let few : loop.count ≤ loop.kind = loop.invariant.0 in
    let long : length loop.store ≡ 32 = loop.invariant.1 in
    elim c.if-norms-kind-ne0.branch [
      | then-norms-kind-ne0 w ↦ rw (w.store-is, w.count-is) (omega arith, length-set loop.store _ _ ∙ long, stored_more norms loop.invariant.2 (search rules) (omega arith))
      | else-norms-kind-ne0 w ↦ rw (w.store-is, w.count-is) (omega arith, long, stored_skip norms loop.invariant.2 (omega arith))
    ]

pub returns : goal.returns
returns c =
    let loop = c.loop-kind in
    let last : loop.kind ≡ c.args.kinds = omega arith in
    rw last at loop.invariant.2.kinds
