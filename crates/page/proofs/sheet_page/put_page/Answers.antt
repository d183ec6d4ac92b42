-- `put_page`: the refusal, or the lines.
use Rattle.std.proofs.Common.{arith, ap, ap₂, ◌∙◌}
use Rattle.model.specs.Page.{refused_line, page_of}
use Rattle.page.specs.Lengths.{most_page}
use Rattle.acceptance.proofs.Acceptances.{accepts, found_refused}
use Rattle.text.proofs.Append.{reads_as}
use Rattle.page.proofs.Pages.{page_refusal, page_lines}
use Rattle.page.proofs.sheet_page.put_page.Goals as goal

pub settle_accepted-requires : goal.settle_accepted-requires
settle_accepted-requires c = rw (c.of-settlement.ensures.card, c.of-settlement.ensures.norms) (accepts _ c.in-Ok.acceptance c.in-Ok.ensures)

pub put_lines-requires : goal.put_lines-requires
put_lines-requires c = record { settlement = c.settle_accepted.ensures; most_page_in_bounds = omega (arith, c.requires) }

pub returns-in-Ok : goal.returns-in-Ok
returns-in-Ok c = reads_as most_page (page_of c.args.sheet.now) c.put_lines.ensures (omega arith) (page_lines c.settle_accepted.ensures.accepts)

pub returns-in-Err : goal.returns-in-Err
returns-in-Err c =
    reads_as most_page (page_of c.args.sheet.now) c.put_refused.ensures (omega arith)
    (ap₂ refused_line c.number.ensures c.place.ensures ∙ page_refusal _ _ _ (found_refused _ _ _ c.in-Err.ensures))
