use borrow.Author.Rules.{rules}
use mathlib.Core.Path.{◌≡◌}
use native.Mathlib.Omega.{arith}
use Rattle.tables.proofs.Tables.{told_not, counts_equal}
use Rattle.stages.proofs.Parted.{forms_fit, part_before, part_here, part_first}
use Rattle.stages.proofs.parting.parting_form.Goals as goal

pub form_before-one-requires-clause-by_index : goal.form_before-one-requires-clause-by_index
form_before-one-requires-clause-by_index c =
    let loop = c.loop-t in
    let part = c.requires.by_index in
    (forms_fit loop.t c.loop-t-test.true (loop.invariant.4 part.0 part.1 part.2 part.3 part.4)).0

pub form_before-other-requires-clause-by_index : goal.form_before-other-requires-clause-by_index
form_before-other-requires-clause-by_index c =
    let loop = c.loop-t in
    let part = c.requires.by_index in
    (forms_fit loop.t c.loop-t-test.true (loop.invariant.4 part.0 part.1 part.2 part.3 part.4)).1

pub returns-then-eq : goal.returns-then-eq
returns-then-eq c =
    let in-loop = c.loop-t in
    let loop-test = c.loop-t-test in
    let form_before_is = c.form_before-one in
    let form-before2 = c.form_before-other in
    λ sense s i j p.
    let loop = in-loop in
    part_here loop.t loop-test.true (loop.invariant.4 sense s i j p) form_before_is.result form-before2.result form_before_is.ensures form-before2.ensures _ loop.invariant.1 ((counts_equal _ _ _ (search rules) c.eq.ensures).0 c.if-eq.true)

pub loop-t-preserved : goal.loop-t-preserved
loop-t-preserved c =
    let loop = c.loop-t in
    let test = c.loop-t-test.true in
    let form_before_is = c.form_before-one in
    let form-before2 = c.form_before-other in
    (omega (arith, test), omega (arith, loop.invariant.1), search rules, search rules, λ sense s i j p. part_before loop.t test (loop.invariant.4 sense s i j p) form_before_is.result form-before2.result form_before_is.ensures form-before2.ensures (told_not (counts_equal _ _ _ (search rules) c.eq.ensures) c.if-eq.false))

pub returns : goal.returns
returns c = λ sense s i j p.
    let loop = c.loop-t in
    let one : loop.t ≡ 1 = omega (arith, loop.invariant.0, c.loop-t-test.false) in
    rw one (part_first _ (omega (arith, loop.invariant.0, loop.invariant.1)) (rw one at (loop.invariant.4 sense s i j p)))
