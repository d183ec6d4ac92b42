use native.Mathlib.Omega.{arith}
use mathlib.Core.Path.{◌∙◌}
use Rattle.test_player.proofs.Tokens.{tokens_none, tokens_next, tokens_all}
use Rattle.test_player.proofs.totals.total.Goals as goal

pub loop-kind-init : goal.loop-kind-init
loop-kind-init c = (tokens_none _, omega arith)

pub overflow_add-tokens : goal.overflow_add-tokens
overflow_add-tokens c = omega (arith, c.requires.fits.room c.loop-kind.kind)

pub loop-kind-preserved : goal.loop-kind-preserved
loop-kind-preserved c =
    let reached = c.loop-kind in
    (tokens_next _ _ reached.invariant.0, omega (arith, c.requires.fits.room reached.kind))

pub returns : goal.returns
returns c = c.loop-kind.invariant.0 ∙ tokens_all _ _ (omega (arith, c.kinds-kind-end.ensures))
