-- The candidate of the rows that hold the two forms.
use mathlib.Core.Path.{◌∙◌, sym}
use native.Mathlib.Omega.{arith}
use Rattle.tables.proofs.Tables.{lent_length, lent_under}
use Rattle.tables.proofs.Subtraction.{told_candidate}
use Rattle.rows.proofs.row.told.Goals as goal

pub candidate-requires : goal.candidate-requires
candidate-requires c =
    let forms = c.args.forms.now in
    let own = lent_length forms c.args.own (omega (arith, c.requires.line_table.0.few, c.requires.line_table.1, c.requires.own_bound.0)) c.row_of.ensures in
    let other = lent_length forms c.args.other (omega (arith, c.requires.line_table.0.few, c.requires.line_table.1, c.requires.own_bound.1)) c.row_of-2.ensures in
    record { kind_in_bounds = (omega (arith, own, c.kind_of-kind.ensures, c.requires.line_table.0.kinds_under c.args.other c.requires.own_bound.1), other ∙ sym own, omega (arith, own)); under = lent_under forms c.args.own c.row_of.ensures c.requires.line_table.2 }

pub returns : goal.returns
returns c =
    rw (← c.kind_of-kind.ensures) (told_candidate c.args.forms.now c.args.own c.args.other _ _ c.row_of.ensures c.row_of-2.ensures c.candidate.ensures)
