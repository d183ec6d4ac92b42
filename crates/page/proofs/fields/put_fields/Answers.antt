use mathlib.Core.Path.{◌≡◌, ap}
use Prim.Native.Nat.{ℕ, ◌*◌}
use native.Mathlib.Omega.{arith}
use Rattle.model.specs.Finite.{concat, list_from}
use Rattle.listing.specs.Line.{field_at, fields_text}
use Rattle.page.specs.Lengths.{most_field}
use Rattle.text.proofs.Append.{reads_as}
use Rattle.text.proofs.Sequence.{no_text, next_text}
use Rattle.page.proofs.fields.put_fields.Goals as goal

pub loop-i-init : goal.loop-i-init
loop-i-init c = no_text (field_at c.args.sheet.now) most_field 0 c.args.out.now c.args.at

pub put_settled_field-next-requires : goal.put_settled_field-next-requires
put_settled_field-next-requires c =
    let so_far = c.loop-i.invariant in
    record { settlement = c.requires.settlement; field_lt_fields = omega arith; most_field_in_bounds = omega (arith, so_far.ends, so_far.size, so_far.within, c.requires.fields_in_bounds) }

pub loop-i-preserved : goal.loop-i-preserved
loop-i-preserved c =
    let loop = c.loop-i in
    next_text (field_at c.args.sheet.now) 0 loop.i loop.invariant c.put_settled_field-next.ensures (omega arith)

pub shape_of-out : goal.shape_of-out
shape_of-out c = c.loop-i.invariant.size

pub returns : goal.returns
unfolding fields_text
returns c =
    let all : c.loop-i.i ≡ c.args.settlement.now.card.fields = omega arith in
    reads_as (most_field * c.args.settlement.now.card.fields) (fields_text c.args.sheet.now c.args.settlement.now.card.fields) c.loop-i.invariant (omega arith)
    (ap (λ (i : ℕ). concat (list_from (field_at c.args.sheet.now) 0 i)) all)
