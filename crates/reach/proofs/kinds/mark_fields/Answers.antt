use Rattle.reach.proofs.Adding.{added_more}
use Rattle.reach.proofs.Passing.{field_adds}
use Rattle.reach.proofs.kinds.mark_fields.Goals as goal

pub loop-number-preserved : goal.loop-number-preserved
loop-number-preserved c =
    let loop = c.loop-number in
    added_more loop.invariant c.mark.auto.marks (field_adds c.requires.reads loop.number _ c.field-field.ensures c.mark.ensures)
