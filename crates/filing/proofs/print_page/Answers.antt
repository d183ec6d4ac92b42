-- `print_page`: the page that was written lies in its buffer, and is the text that is printed.
use Rattle.std.proofs.Common.{◌≤◌, sym, ap, subst, ◌∙◌, length, take, length-take-le}
use Rattle.std.specs.Bool.{OnTrue}
use Rattle.std.specs.Io.KnownBytes.{Appends}
use Rattle.filing.proofs.Printed.{page_front}
use Rattle.filing.proofs.print_page.Goals as goal

pub slice_bounds-text-end : goal.slice_bounds-text-end
slice_bounds-text-end g c =
    subst (λ l. c.in-Ok.length ≤ length l) (sym c.write_page.ensures.out_after) (page_front _ _ _ c.in-Ok.ensures.result_value).0

pub slice_bounds-print-end-2 : goal.slice_bounds-print-end-2
slice_bounds-print-end-2 g c =
    sym (length-take-le _ _ (subst (λ l. c.in-Ok.length ≤ length l) (sym c.write_page.ensures.out_after) (page_front _ _ _ c.in-Ok.ensures.result_value).0))

pub returns-clause-written : goal.returns-clause-written
returns-clause-written g c =
    let text = ap (take c.in-Ok.length) c.write_page.ensures.out_after ∙ (page_front _ _ _ c.in-Ok.ensures.result_value).1 in
    subst (λ t. OnTrue c.print.result (Appends (g.O.Write.contents c.args.output.now) (g.O.Write.contents c.print.new.output) t)) text c.print.ensures.written
