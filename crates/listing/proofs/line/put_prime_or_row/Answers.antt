-- `put_prime_or_row`: each branch is a case of `row_text`.
use mathlib.Core.Path.{sym, ◌∙◌, ap}
use Prim.Native.Nat.{◌+◌}
use native.Mathlib.Omega.{arith}
use lib.ListN.{length}
use Rattle.model.specs.Page.{bytes, counts_of}
use Rattle.text.specs.Lengths.{letters, most_counts}
use Rattle.listing.specs.Line.{row_text}
use Rattle.text.proofs.Append.{reads_as}
use Rattle.listing.proofs.Lines.{prime_is, counts_is}
use Rattle.listing.proofs.line.put_prime_or_row.Goals as goal

pub slice_bounds-put_counts-end : goal.slice_bounds-put_counts-end
slice_bounds-put_counts-end c = sym (ap length c.widen-counts.ensures)

pub put_counts-requires : goal.put_counts-requires
put_counts-requires c = omega (arith, ap length c.widen-counts.ensures)

pub returns-then-row-kind-eq1 : goal.returns-then-row-kind-eq1
unfolding bytes
returns-then-row-kind-eq1 c =
    let prime = c.if-row-kind-eq1.true in
    reads_as (letters "prime" + most_counts (length c.args.row.now)) (row_text c.args.kind c.args.row.now) c.put_bytes.ensures (omega arith)
    (prime_is c.args.kind c.args.row.now prime)

pub returns-else-row-kind-eq1 : goal.returns-else-row-kind-eq1
returns-else-row-kind-eq1 c =
    reads_as (letters "prime" + most_counts (length c.args.row.now)) (row_text c.args.kind c.args.row.now) c.put_counts.ensures (omega (arith, ap length c.widen-counts.ensures))
    (ap counts_of c.widen-counts.ensures ∙ counts_is c.args.kind c.args.row.now c.if-row-kind-eq1.false)
