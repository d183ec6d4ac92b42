-- In the plain sense there is nothing to share, in the finer one the tokens are counted.
use borrow.Author.Tests.{eqb-true, eq-eqb}
use mathlib.Core.Path.{◌≡◌, refl, sym, ◌∙◌, ap}
use Rattle.model.specs.Field.{at, tokens}
use Rattle.model.specs.Limits.{most_kinds}
use Rattle.row_tests.proofs.total.shares_total.Goals as goal

pub returns-in-Plain : goal.returns-in-Plain
returns-in-Plain c = rw c.in-Plain.is ((λ _. tt), (λ _. refl))

pub returns-in-Finer : goal.returns-in-Finer
returns-in-Finer c =
    let row = c.args.row.now in
    let counted : c.tokens_of.result ≡ tokens most_kinds (at row) = c.tokens_of.ensures ∙ ap (λ n. tokens n (at row)) c.requires in
    rw c.in-Finer.is ((λ e. sym counted ∙ eqb-true c.tokens_of.result 1 e), (λ e. eq-eqb c.tokens_of.result 1 (counted ∙ e)))
