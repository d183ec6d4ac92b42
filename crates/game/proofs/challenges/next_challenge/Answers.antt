-- The first of the challenges, or what the search among the others answers.
use mathlib.Core.Path.{◌≡◌, sym, ◌∙◌}
use native.Mathlib.Omega.{arith}
use Rattle.moves.proofs.Searches.{searching_starts, searching_found, searching_on, searching_ends}
use Rattle.game.proofs.challenges.next_challenge.Goals as goal

pub returns-then-may_challenge : goal.returns-then-may_challenge
returns-then-may_challenge c = searching_found _ _ _ _ (searching_starts _ _ _ c.requires.from_le_to.0) c.if-from-to.true (sym c.may_challenge.ensures ∙ c.if-may_challenge.true)

pub returns-then-from-to : goal.returns-then-from-to
returns-then-from-to c =
    let on = searching_on _ _ _ _ (searching_starts _ _ _ c.requires.from_le_to.0) c.if-from-to.true (sym c.may_challenge.ensures ∙ c.if-may_challenge.false) in
    c.search_challenge.ensures ∙ on.same

pub returns : goal.returns
returns c =
    let e : c.args.to ≡ c.args.from = omega (arith, c.requires.from_le_to.0, c.if-from-to.false) in
    e ∙ searching_ends _ _ _ _ (searching_starts _ _ _ c.requires.from_le_to.0) c.if-from-to.false
