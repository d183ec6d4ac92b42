use mathlib.Core.Path.{◌≡◌, ◌∙◌, ap}
use Prim.Native.Nat.{ℕ, ◌*◌}
use native.Mathlib.Omega.{arith}
use lib.ListN.{length}
use Rattle.model.specs.Finite.{concat, list_from}
use Rattle.model.specs.Field.{at}
use Rattle.listing.specs.Line.{kind_text, kind_at, kinds_text}
use Rattle.page.specs.Lengths.{most_kind}
use Rattle.text.proofs.Append.{reads_as}
use Rattle.text.proofs.Sequence.{no_text, next_text}
use Rattle.page.proofs.Pages.{row_length}
use Rattle.page.proofs.kinds.put_kinds.Goals as goal

pub loop-kind-init : goal.loop-kind-init
loop-kind-init c = no_text (kind_at c.args.kinds c.args.norms c.args.since c.args.table.now) most_kind 0 c.args.out.now c.args.at

pub row-part-requires : goal.row-part-requires
row-part-requires c = tt

pub put_kind-next-requires : goal.put_kind-next-requires
put_kind-next-requires c =
    let so_far = c.loop-kind.invariant in
    let long = ap length c.row-part.ensures ∙ row_length c.args.kinds _ c.args.table.now (record { some = c.requires.le_kinds.0; few = c.requires.le_kinds.1; kind = omega arith; room = c.requires.kinds_in_bounds }) in
    record { kind_in_bounds = (omega arith, omega arith); row_in_bounds = omega (arith, so_far.ends, so_far.size, so_far.within, c.requires.out_in_bounds) }

pub loop-kind-preserved : goal.loop-kind-preserved
loop-kind-preserved c =
    let kind = c.loop-kind.kind in
    let line = kind_at c.args.kinds c.args.norms c.args.since c.args.table.now in
    let long = ap length c.row-part.ensures ∙ row_length c.args.kinds _ c.args.table.now (record { some = c.requires.le_kinds.0; few = c.requires.le_kinds.1; kind = omega arith; room = c.requires.kinds_in_bounds }) in
    next_text line 0 kind c.loop-kind.invariant
    (reads_as most_kind (line kind) c.put_kind-next.ensures (omega arith) (ap (kind_text kind (at c.args.norms kind) (at c.args.since kind)) c.row-part.ensures)) (omega arith)

pub shape_of-out : goal.shape_of-out
shape_of-out c = c.loop-kind.invariant.size

pub returns : goal.returns
unfolding kinds_text
returns c =
    let all : c.loop-kind.kind ≡ c.args.kinds = omega arith in
    reads_as (most_kind * c.args.kinds) (kinds_text c.args.kinds c.args.norms c.args.since c.args.table.now) c.loop-kind.invariant (omega arith)
    (ap (λ (i : ℕ). concat (list_from (kind_at c.args.kinds c.args.norms c.args.since c.args.table.now) 0 i)) all)
