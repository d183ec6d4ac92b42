-- `numbers_in`: a word that is no number, or one too many, says none; else the loop goes on past the word's end.
use mathlib.Core.Path.{refl, sym, ◌∙◌, ap}
use native.Mathlib.Omega.{arith}
use lib.ListN.{length}
use Rattle.words.specs.Words.{count_of}
use Rattle.words.proofs.Texts.{first_end, counting_starts, counting_ends, counting_full, counting_other, counting_on}
use Rattle.words.proofs.list.numbers_in.Goals as goal

pub loop-end-init : goal.loop-end-init
loop-end-init c = counting_starts c.args.text.now c.args.values.now

pub returns-then-values-count-clause-values_after : goal.returns-then-values-count-clause-values_after
returns-then-values-count-clause-values_after c =
    let loop = c.loop-end in
    let ends = first_end loop.rest.now _ c.in-Some.ensures in
    counting_full (length c.args.values.now) c.args.text.now loop.values loop.rest.now loop.count loop.invariant c.in-Some.end ends _ _ refl refl (omega (arith, loop.invariant.size, c.if-values-count.true))

pub split_at-requires : goal.split_at-requires
split_at-requires c = let ends = first_end c.loop-end.rest.now _ c.in-Some.ensures in omega (arith, ends.1)

pub returns-in_err-values-clause-values_after : goal.returns-in_err-values-clause-values_after
returns-in_err-values-clause-values_after c =
    let loop = c.loop-end in
    let ends = first_end loop.rest.now _ c.in-Some.ensures in
    ap (λ n. count_of n loop.values) c.from_residual.ensures
    ∙ counting_other (length c.args.values.now) c.args.text.now loop.values loop.rest.now loop.count loop.invariant c.in-Some.end ends _ _ c.split_at.ensures.front c.split_at.ensures.back (omega (arith, loop.invariant.size, c.if-values-count.false)) (sym c.in_err-values.ensures)

pub slice_bounds-rest-start : goal.slice_bounds-rest-start
slice_bounds-rest-start c = let ends = first_end c.loop-end.rest.now _ c.in-Some.ensures in omega (arith, ends.1, c.split_at.ensures.back_len)

pub loop-end-preserved : goal.loop-end-preserved
loop-end-preserved c =
    let loop = c.loop-end in
    let ends = first_end loop.rest.now _ c.in-Some.ensures in
    counting_on (length c.args.values.now) c.args.text.now loop.values loop.rest.now loop.count loop.invariant c.in-Some.end ends _ _ c.split_at.ensures.front c.split_at.ensures.back (omega (arith, loop.invariant.size, c.if-values-count.false)) c.in_ok-values.field-0 (sym c.in_ok-values.ensures)

pub returns-clause-values_after : goal.returns-clause-values_after
returns-clause-values_after c =
    let loop = c.loop-end in
    counting_ends (length c.args.values.now) c.args.text.now loop.values loop.rest.now loop.count loop.invariant (first_end loop.rest.now _ c.in_default.ensures)
