use mathlib.Core.Path.{◌≡◌, ap, sym, ◌∙◌}
use Rattle.std.proofs.Common.{arith}
use Rattle.std.proofs.lemmas.Grind.{common_steps}
use Rattle.std.proofs.lemmas.List.{get_or-map}
use Rattle.theory.proofs.Writing.{begun_more}
use Rattle.copies.proofs.widen.Goals as goal

pub loop-i-preserved : goal.loop-i-preserved
loop-i-preserved g c =
    let number = g.T.Count.number in
    let values = c.args.values.now in
    begun_more c.loop-i.invariant _ (grind (arith, common_steps))
    (c.wide.ensures ∙ ap number c.index-values-i.is ∙ sym (get_or-map number values c.loop-i.i c.index-values-i.result 0 c.loop-i-test.true))
