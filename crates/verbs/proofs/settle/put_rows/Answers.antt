use mathlib.Core.Path.{◌≡◌, ap}
use Prim.Native.Nat.{ℕ, ◌*◌}
use native.Mathlib.Omega.{arith}
use Rattle.model.specs.Finite.{concat, list_from}
use Rattle.text.proofs.Append.{reads_as}
use Rattle.text.proofs.Sequence.{no_text, next_text}
use Rattle.verbs.specs.Texts.{most_row, row_lines}
use Rattle.verbs.proofs.settle.put_rows.Invariants.{row_line}
use Rattle.verbs.proofs.settle.put_rows.Goals as goal

pub loop-kind-init : goal.loop-kind-init
loop-kind-init c = no_text (row_line c.args.table.now c.args.kinds) most_row 0 c.args.out.now c.args.at

pub put_row-next-requires : goal.put_row-next-requires
put_row-next-requires c =
    let so_far = c.loop-kind.invariant in
    omega (arith, so_far.ends, so_far.size, so_far.within, c.requires, c.loop-kind-test.true)

pub loop-kind-preserved : goal.loop-kind-preserved
loop-kind-preserved c = next_text (row_line c.args.table.now c.args.kinds) 0 c.loop-kind.kind c.loop-kind.invariant c.put_row-next.ensures (omega arith)

pub shape_of-out : goal.shape_of-out
shape_of-out c = c.loop-kind.invariant.size

pub returns : goal.returns
unfolding row_lines
returns c =
    let all : c.loop-kind.kind ≡ c.args.kinds = omega arith in
    reads_as (most_row * c.args.kinds) (row_lines c.args.kinds c.args.table.now) c.loop-kind.invariant (omega arith)
    (ap (λ (i : ℕ). concat (list_from (row_line c.args.table.now c.args.kinds) 0 i)) all)
