use mathlib.Core.Path.{◌≡◌}
use native.Mathlib.Omega.{arith}
use borrow.Author.Rules.{rules}
use lib.ListN.{length, length-append}
use Rattle.std.proofs.lemmas.Slice.Zip.{zip_turn, zip_end}
use Rattle.quotients.proofs.Loops.{begin, more, end}
use Rattle.quotients.proofs.times.times_in.Goals as goal

pub loop-whole-init : goal.loop-whole-init
loop-whole-init c = begin 18446744073709551615 _ _

pub loop-whole-preserved : goal.loop-whole-preserved
loop-whole-preserved c =
    let loop = c.loop-whole in
    let turn = zip_turn c.args.whole.now c.args.squad.now loop.yielded c.into_iter-whole-iterator.result loop.whole-iterator c.next.new.self c.next.result (search rules) (search rules) loop.yielded_by (c.in-Some.whole, c.in-Some.squad) c.in-Some.is c.next.ensures.steps in
    rw (length-append, ← more 18446744073709551615 _ _ _ loop.times loop.invariant, ← turn.2 0, ← turn.3 0) c.times_up_to-times.ensures

pub returns : goal.returns
returns c =
    let loop = c.loop-whole in
    let turns = zip_end c.args.whole.now c.args.squad.now loop.yielded c.into_iter-whole-iterator.result loop.whole-iterator c.next.new.self c.next.result (search rules) (search rules) loop.yielded_by c.in-None.is c.next.ensures.steps in
    let all : length loop.yielded ≡ length c.args.whole.now = omega (arith, turns, c.requires.whole_len) in
    end 18446744073709551615 _ _ (length c.args.whole.now) loop.times (λ k. omega (arith, c.type_inv.whole k)) (rw c.requires.whole_len c.requires.nonzero) (rw all at loop.invariant)
