-- Each way out of the loop is one of what the rounds tried come to.
use native.Mathlib.Omega.{arith}
use mathlib.Core.Bool.{true, false}
use mathlib.Core.Path.{sym}
use Prim.Native.Nat.{◌+◌}
use Rattle.walker.proofs.Tries.{plays_of, plays_as, tries_within, tried_all, tried_spent, tried_apart, tried_on}
use Rattle.walker.proofs.entry.try_rounds.Goals as goal
use Rattle.walker.proofs.entry.try_rounds.Goals.{else-loop-rounds-test, then-loop-rounds-test+in-Holds+else-rounds-limit}

pub overflow_sub-result : goal.overflow_sub-result
overflow_sub-result c =
    let l = c.loop-rounds in
    tries_within _ _ _ c.args.allowance l.left l.rounds 0 l.invariant.0 false _ (sym c.in-Fails.ensures)

pub returns-in-Fails : goal.returns-in-Fails
returns-in-Fails c = let l = c.loop-rounds in plays_of (tried_apart _ _ _ _ _ l.left l.rounds l.invariant c.loop-rounds-test.true _ (sym c.in-Fails.ensures))

pub returns-in-Spent : goal.returns-in-Spent
returns-in-Spent c =
    let l = c.loop-rounds in
    plays_as c.spend.result c.spend.ensures (tried_spent _ _ _ _ _ l.left l.rounds l.invariant c.loop-rounds-test.true (sym c.in-Spent.ensures))

pub loop-rounds-preserved : goal.loop-rounds-preserved
loop-rounds-preserved c = let l = c.loop-rounds in tried_on _ _ _ _ _ l.left l.rounds l.invariant c.loop-rounds-test.true _ (sym c.in-Holds.ensures)

pub overflow_sub-result-2 : goal.overflow_sub-result-2
overflow_sub-result-2 c =
    let l = c.loop-rounds in
    elim c.loop-rounds-test.branch [
      | else-loop-rounds-test w ↦ omega (arith, w.left-is, l.invariant.0)
      | then-loop-rounds-test+in-Holds+else-rounds-limit w ↦
          omega (arith, w.left-is, tries_within _ _ _ c.args.allowance l.left l.rounds 0 l.invariant.0 true _ (sym w.in-Holds.ensures))
    ]

pub returns : goal.returns
returns c =
    let l = c.loop-rounds in
    elim c.loop-rounds-test.branch [
      | else-loop-rounds-test w ↦
          rw w.left-is (plays_of (tried_all _ _ _ _ _ l.left l.rounds l.invariant (omega (arith, w.loop-rounds-test.false))))
      | then-loop-rounds-test+in-Holds+else-rounds-limit w ↦
          rw w.left-is (plays_of (tried_all _ _ _ _ _ w.in-Holds.rest (l.rounds + 1)
          (tried_on _ _ _ _ _ l.left l.rounds l.invariant w.loop-rounds-test.true _ (sym w.in-Holds.ensures)) (omega arith)))
    ]
