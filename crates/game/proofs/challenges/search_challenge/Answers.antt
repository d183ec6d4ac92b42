use mathlib.Core.Path.{◌≡◌, sym, ◌∙◌}
use native.Mathlib.Omega.{arith}
use Rattle.moves.proofs.Searches.{searching_starts, searching_on, searching_found, searching_ends}
use Rattle.game.proofs.challenges.search_challenge.Goals as goal

pub loop-number-init : goal.loop-number-init
loop-number-init c = searching_starts _ _ _ c.requires.from_le_to.0

pub returns-then-may_challenge : goal.returns-then-may_challenge
returns-then-may_challenge c = searching_found _ _ _ _ c.loop-number.invariant c.loop-number-test.true (sym c.may_challenge.ensures ∙ c.if-may_challenge.true)

pub loop-number-preserved : goal.loop-number-preserved
loop-number-preserved c = searching_on _ _ _ _ c.loop-number.invariant c.loop-number-test.true (sym c.may_challenge.ensures ∙ c.if-may_challenge.false)

pub returns : goal.returns
returns c =
    let e : c.args.to ≡ c.loop-number.number = omega (arith, c.loop-number.invariant.within, c.loop-number-test.false) in
    e ∙ searching_ends _ _ _ _ c.loop-number.invariant c.loop-number-test.false
