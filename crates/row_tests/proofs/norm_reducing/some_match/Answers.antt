-- Each line of the list is one of the table's.
use Rattle.std.proofs.Common.{rules, sym, ◌∙◌, ◌<◌}
use Rattle.std.proofs.lemmas.Iterator.{YieldsList-from_slice}
use Rattle.std.proofs.lemmas.Iterator.Adapters.{serves_from_places}
use Rattle.std.proofs.lemmas.Grind.{get_or_default_zero}
use Rattle.tables.specs.Lines.{lines_in}
use Rattle.row_tests.proofs.norm_reducing.some_match.Goals as goal

pub any-requires-clause-callable : goal.any-requires-clause-callable
any-requires-clause-callable c =
    let list = c.args.list.now in
    serves_from_places (YieldsList-from_slice list cc) (λ x q k. search rules) (λ x k l e. let within : x.now < lines_in c.args.effects.now.lines = c.requires.list_within x.now (k, l, sym (e ∙ get_or_default_zero list k x.now l)) in search rules)
