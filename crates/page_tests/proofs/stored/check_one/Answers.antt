-- `check_one`: the page that was written fits its buffer.
use Rattle.std.proofs.Common.{sym, ap, ◌∙◌, ◌≤◌, arith, length, length-take-le}
use Rattle.refusals.specs.Refusals.{answer_of}
use Rattle.page.proofs.Pages.{written_within}
use Rattle.page_tests.proofs.stored.check_one.Goals as goal

pub slice_bounds-text-end : goal.slice_bounds-text-end
slice_bounds-text-end g c =
    let told = ap (answer_of (λ n. n)) (sym c.in-Ok.is) ∙ c.write_page.ensures.result_value in
    omega (arith, written_within _ _ _ told)

pub slice_bounds-print_difference-end : goal.slice_bounds-print_difference-end
slice_bounds-print_difference-end g c =
    let told = ap (answer_of (λ n. n)) (sym c.in-Ok.is) ∙ c.write_page.ensures.result_value in
    let fits : c.in-Ok.end ≤ length c.write_page.new.out = omega (arith, written_within _ _ _ told) in
    sym (length-take-le _ _ fits)
