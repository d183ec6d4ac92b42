-- Stage 0 by norms, the later stages by the settled sheet.
use borrow.Author.Rules.{rules}
use Rattle.frequencies.proofs.Counted.{related_none, related_all}
use Rattle.frequencies.proofs.related.related_fields.Goals as goal

pub returns-then-start-eq0 : goal.returns-then-start-eq0
returns-then-start-eq0 c =
    λ q _. related_none c.args.sheet.now c.requires.accepts.accepted c.args.field c.args.size _ c.count_norms-start.ensures (search rules) q

pub returns : goal.returns
returns c =
    related_all c.args.sheet.now c.requires.accepts.accepted c.args.field c.args.size _ c.count_settled-related.result (search rules) c.count_settled-related.ensures c.count_norms-start.ensures
