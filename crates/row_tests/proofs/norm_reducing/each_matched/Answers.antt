-- Each line of the lists is one of the table's.
use Rattle.std.proofs.Common.{rules, sym, ◌∙◌, ℕ, ◌<◌}
use Rattle.std.proofs.lemmas.Iterator.{YieldsList-from_slice, cases_from_all}
use Rattle.std.proofs.lemmas.Iterator.Adapters.{serves_from_places}
use Rattle.std.proofs.lemmas.Grind.{get_or_default_zero}
use Rattle.tables.specs.Lines.{lines_in}
use Rattle.tables.specs.Match.{Among, MatchBy}
use Rattle.row_tests.proofs.Tried.{entries_tried}
use Rattle.row_tests.proofs.norm_reducing.each_matched.Goals as goal

pub all-requires-clause-callable : goal.all-requires-clause-callable
all-requires-clause-callable c =
    let list = c.args.list.now in
    serves_from_places (YieldsList-from_slice list cc) (λ x q k. search rules) (λ x k l e. let within : x.now < lines_in c.args.effects.now.lines = c.requires.list_within x.now (k, l, sym (e ∙ get_or_default_zero list k x.now l)) in search rules)

pub returns : goal.returns
returns c =
    let P : ℕ → Type 0 = λ i. (j : ℕ) × Among c.args.others.now j × MatchBy c.args.effects.now i j in
    let list = c.args.list.now in
    entries_tried P c.all.result list (cases_from_all _ _ c.all.result P (λ i. P i → ⊥) c.all.ensures.ran (YieldsList-from_slice list cc) (λ x q k. search rules) (λ x q k. search rules))
