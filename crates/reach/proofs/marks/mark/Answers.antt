use mathlib.Core.Bool.{true, false}
use mathlib.Core.List.{map}
use mathlib.Core.Path.{◌≡◌, sym, ap, ◌∙◌}
use Prim.Native.Nat.{◌<◌}
use native.Mathlib.Omega.{arith}
use lib.ListN.{length}
use Rattle.std.proofs.lemmas.List.{get_or-map}
use Rattle.model.specs.Field.{at}
use Rattle.reach.proofs.Adding.{counted_more, counted_skip}
use Rattle.reach.proofs.marks.mark.Goals as goal
use Rattle.reach.proofs.marks.mark.Goals.{then-some, else-some}

pub loop-kind-preserved : goal.loop-kind-preserved
loop-kind-preserved g c =
    let counts = map g.T.Count.tokens c.args.counts.now in
    let loop = c.loop-kind in
    let item = c.index-counts-kind in
    let here : at (map g.T.Count.tokens c.args.counts.now) loop.kind ≡ g.T.Count.tokens item.result =
    get_or-map g.T.Count.tokens c.args.counts.now loop.kind item.result 0 c.loop-kind-test.true ∙ ap g.T.Count.tokens (sym item.is)
    in
    let l : loop.kind < length loop.marks = omega (arith, loop.invariant.long) in
    elim c.if-some.branch [
      | then-some w ↦ rw w.marks-is (counted_more counts loop.invariant l (rw here (c.some.ensures.0 w.if-some.true)))
      | else-some w ↦
          let no : ¬ (0 < g.T.Count.tokens item.result) = λ p. let e : true ≡ false = sym (c.some.ensures.1 p) ∙ w.if-some.false in cc in
          rw w.marks-is (counted_skip counts loop.invariant (omega (arith, here)))
    ]
