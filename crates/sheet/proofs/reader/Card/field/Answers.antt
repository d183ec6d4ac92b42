use mathlib.Core.Path.{◌≡◌}
use native.Mathlib.Omega.{arith}
use Rattle.sheet.proofs.Counts.{counts_none, counts_more}
use Rattle.sheet.proofs.Laws.{kinds_most, lines_most, fields_most}
use Rattle.sheet.proofs.Reading.{field_read}
use Rattle.sheet.proofs.reader.Card.field.Goals as goal

pub field_start-start-requires : goal.field_start-start-requires
field_start-start-requires c =
    let pre = c.requires.reads in
    (kinds_most pre, lines_most pre, omega (arith, fields_most pre))

pub loop-kind-init : goal.loop-kind-init
loop-kind-init c = counts_none _ 32

pub bounds-counts-kind : goal.bounds-counts-kind
bounds-counts-kind c =
    omega (arith, kinds_most c.requires.reads)

pub loop-kind-preserved : goal.loop-kind-preserved
loop-kind-preserved c = counts_more _ _ _ _ _ (omega (arith, kinds_most c.requires.reads)) c.loop-kind.invariant c.u16_at.ensures.0

pub returns : goal.returns
returns c =
    let pre = c.requires.reads in
    let all : c.loop-kind.kind ≡ c.args.self.kinds = omega arith in
    field_read pre _ _ _ c.field_start-start.ensures.0 (rw all at c.loop-kind.invariant)
