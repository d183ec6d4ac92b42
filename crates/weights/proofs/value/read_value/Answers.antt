use mathlib.Core.Path.{◌≡◌, refl, sym, ◌∙◌, ap}
use Prim.Native.Nat.{ℕ, suc, ◌*◌, ◌^◌}
use native.Mathlib.Omega.{arith}
use lib.ListN.{length}
use Rattle.model.specs.Field.{weigh, at}
use Rattle.weights.specs.Value.{read_value}
use Rattle.weights.proofs.Bounds.{bytes_fit}
use Rattle.weights.proofs.Counts.{SumMore, sum_more, sum_same, ready_true, ready_false, ready_more}
use Rattle.weights.proofs.Values.{read_missing, read_ready}
use Rattle.weights.proofs.value.read_value.Goals as goal
use Rattle.weights.proofs.value.read_value.Goals.{After-loop-i, In-loop-i, then-count-gt0+else-value-eq0, else-count-gt0}

pub loop-i-init : goal.loop-i-init
unfolding weigh
loop-i-init c = (λ k h. absurd (omega arith), refl)

pub returns-then-value-eq0 : goal.returns-then-value-eq0
returns-then-value-eq0 c =
    let args = c.args in
    let loop-i = c.loop-i.i in
    let n = length args.counts.now in
    omega (
      arith,
      read_missing n (at args.values.now) (at args.counts.now) (ready_false n (at args.values.now) (at args.counts.now) loop-i (omega arith) c.if-count-gt0.true c.if-value-eq0.true),
    )

-- What a turn adds of a kind that has tokens.
more : (c : In-loop-i)
    → let args = c.args in
    (x y : ℕ) → x ≡ at args.counts.now c.loop-i.i → y ≡ at args.values.now c.loop-i.i
    → SumMore c.loop-i.i (at args.values.now) (at args.counts.now) c.loop-i.sum (x * y) (2 ^ 64)
more c x y p q =
    let loop = c.loop-i in
    let n = length c.args.counts.now in
    let fits =
    bytes_fit n (at c.args.values.now) (at c.args.counts.now) c.requires.counts_len_bound c.requires.at_most
    (λ k. omega (arith, c.type_inv.counts k)) in
    sum_more loop.i n (at c.args.values.now) (at c.args.counts.now) (2 ^ 64) loop.sum x y (omega arith) fits loop.invariant.1 p q

pub overflow_add-sum : goal.overflow_add-sum
overflow_add-sum c =
    record { fits = (more (goal.at.overflow_add-sum c).In-loop-i _ _ c.from.ensures c.from-then-count-gt0.ensures).sum_fits }

pub loop-i-preserved : goal.loop-i-preserved
loop-i-preserved c =
    let args = c.args in
    let loop = c.loop-i in (
      ready_more _ _ _ loop.invariant.0
          (elim c.if-count-gt0.branch [ then-count-gt0+else-value-eq0 w ↦ λ q. omega arith | else-count-gt0 w ↦ λ q. absurd (omega arith) ]),
      elim c.if-count-gt0.branch [
        | then-count-gt0+else-value-eq0 w ↦ w.sum-is ∙ (more (goal.at.loop-i-preserved c).In-loop-i _ _ w.from.ensures w.from-then-count-gt0.ensures).sum_is
        | else-count-gt0 w ↦ w.sum-is ∙ loop.invariant.1 ∙ sum_same loop.i (at args.values.now) (at args.counts.now) (omega arith)
      ],
    )

-- The read's value, where each kind that is left has one.
value_told : (c : After-loop-i) → let args = c.args in read_value (length args.counts.now) (at args.values.now) (at args.counts.now) ≡ suc c.loop-i.sum
value_told c =
    let args = c.args in
    let loop = c.loop-i in
    let n = length args.counts.now in
    let z : loop.i ≡ n = omega arith in
    read_ready n (at args.values.now) (at args.counts.now) (ready_true n (at args.values.now) (at args.counts.now) (rw z at loop.invariant.0)) ∙ ap suc (sym (rw z at loop.invariant.1))

pub returns-then-sum-from : goal.returns-then-sum-from
returns-then-sum-from c = omega (arith, value_told (goal.at.returns-then-sum-from c).After-loop-i)

pub returns : goal.returns
returns c = omega (arith, value_told (goal.at.returns c).After-loop-i)
