use mathlib.Core.Path.{◌≡◌, ap}
use Prim.Native.Nat.{ℕ, ◌-◌, ◌*◌}
use native.Mathlib.Omega.{arith}
use Rattle.model.specs.Finite.{concat, list_from}
use Rattle.verdicts.specs.Pair.{pair_text, pair_at, pairs_text}
use Rattle.page.specs.Lengths.{most_pair}
use Rattle.text.proofs.Append.{reads_as}
use Rattle.text.proofs.Sequence.{no_text, later_text}
use Rattle.page.proofs.pairs.put_pairs.Goals as goal

pub loop-later-init : goal.loop-later-init
loop-later-init c = (omega arith, no_text (pair_at c.args.sheet.now) most_pair 1 c.args.out.now c.args.at)

pub compare_accepted-verdict-requires : goal.compare_accepted-verdict-requires
compare_accepted-verdict-requires c =
    c.requires.settlement

pub put_pair-next-requires : goal.put_pair-next-requires
put_pair-next-requires c =
    let so_far = c.loop-later.invariant.1 in
    omega (arith, so_far.ends, so_far.size, so_far.within, c.requires.fields_in_bounds)

pub loop-later-preserved : goal.loop-later-preserved
loop-later-preserved c =
    let loop = c.loop-later in
    let compare-settled = c.compare_accepted-verdict in
    let s = c.args.sheet.now in
    let verdict = compare-settled.ensures in (
      omega arith,
      later_text (pair_at s) loop.later (omega arith) loop.invariant.1
          (reads_as most_pair (pair_at s loop.later) c.put_pair-next.ensures (omega arith) (ap (pair_text loop.later) verdict)),
    )

pub shape_of-out : goal.shape_of-out
shape_of-out c = c.loop-later.invariant.1.size

pub returns : goal.returns
unfolding pairs_text
returns c =
    let all : c.loop-later.later - 1 ≡ c.args.fields - 1 = omega arith in
    reads_as (most_pair * (c.args.fields - 1)) (pairs_text c.args.sheet.now c.args.fields) c.loop-later.invariant.1 (omega arith)
    (ap (λ (i : ℕ). concat (list_from (pair_at c.args.sheet.now) 1 i)) all)
