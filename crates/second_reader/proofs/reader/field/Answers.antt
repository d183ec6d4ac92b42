use native.Mathlib.Omega.{arith}
use mathlib.Core.Path.{◌≡◌, sym, ◌∙◌}
use Rattle.model.specs.Field.{at}
use Rattle.model.specs.Sheet.{field_of}
use Rattle.second_reader.proofs.Counts.{filled_none, filled_all, zeros_at, field_past, read_fits}
use Rattle.second_reader.proofs.reader.field.Goals as goal

pub loop-kind-init : goal.loop-kind-init
loop-kind-init c = filled_none _ _ _ (λ q. omega (arith, zeros_at 32 q))

pub returns : goal.returns
returns c =
    let a = c.args in
    let inv = c.loop-kind.invariant in
    let e : at c.loop-kind.counts ≡ field_of a.sheet.now a.number =
    filled_all _ _ _ inv (λ q h. field_past a.sheet.now a.number q (omega (arith, c.kinds-kind-end.ensures)) ∙ sym (zeros_at 32 q)) in
    (e, read_fits a.sheet.now a.number c.loop-kind.counts e inv.most inv.same)
