-- Each list is put in order, and has the entries that it had.
use Rattle.ranks.proofs.Laws.{line_order}
use Rattle.ranks.proofs.Merging.{sorted_tells}
use Rattle.ranks.proofs.matched.all_matched_sorted.Goals as goal

pub all_matched_in_order-requires : goal.all_matched_in_order-requires
all_matched_in_order-requires c = record { lines_of = ((λ i a. c.requires.lines_of.0 i ((c.sorted-mine.ensures.rearranged.entries i).1 a)), (λ i a. c.requires.lines_of.1 i ((c.sorted-its.ensures.rearranged.entries i).1 a))); in_order = (c.sorted-mine.ensures.in_order, c.sorted-its.ensures.in_order) }

pub returns : goal.returns
returns c =
    sorted_tells (line_order c.args.effects.now).same c.sorted-mine.ensures.rearranged c.sorted-its.ensures.rearranged c.all_matched_in_order.ensures
