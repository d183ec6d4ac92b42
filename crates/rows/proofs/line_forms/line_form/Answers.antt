-- The part that holds the line's row is written by the leaf, and comes back into the table.
use mathlib.Core.Path.{◌∙◌}
use Prim.Native.Nat.{◌+◌, ◌*◌, ◌≤◌}
use native.Mathlib.Omega.{arith}
use lib.ListN.{length}
use Rattle.sheet.proofs.Laws.{kinds_are, kinds_most, lines_most}
use Rattle.norms.proofs.Laws.{part_long}
use Rattle.tables.proofs.Tables.{at_kind, part_is, lent_length}
use Rattle.rows.proofs.TableRows.{row_set, row_set_under}
use Rattle.rows.proofs.LineForms.{left_form_small, part_form}
use Rattle.rows.proofs.line_forms.line_form.Goals as goal

pub slice_bounds-form_of_counts-end : goal.slice_bounds-form_of_counts-end
slice_bounds-form_of_counts-end c =
    omega (arith, lines_most c.requires.reads)

pub form_of_counts-requires : goal.form_of_counts-requires
form_of_counts-requires c =
    let R = c.requires.reads in
    let line = c.args.line in
    let e = part_form R line _ c.line_counts.ensures c.args.rows.now in
    let small = left_form_small R (λ y. (c.type_inv.sheet y).fits) c.args.rows.now (λ y. (c.type_inv.rows y).fits) line in
    record { counts_len_bound = (omega (arith, part_long R line _ c.line_counts.ensures, kinds_most R), c.requires.rows_len.0, omega (arith, lent_length c.args.forms.now line (omega (arith, lines_most R)) (part_is c.args.forms.now line))); atoms = λ k h. c.requires.atoms k (omega (arith, part_long R line _ c.line_counts.ensures, kinds_are R)); by_index = λ x. omega (arith, at_kind e x, small x) }

pub returns : goal.returns
returns c =
    let R = c.requires.reads in
    let forms = c.args.forms.now in
    let line = c.args.line in
    let e = c.form_of_counts.ensures ∙ part_form R line _ c.line_counts.ensures c.args.rows.now in
    let room : line * 32 + 32 ≤ length forms = omega (arith, lines_most R) in
    let long = c.form_of_counts.auto.out ∙ lent_length forms line room (part_is forms line) in
    let small = left_form_small R (λ y. (c.type_inv.sheet y).fits) c.args.rows.now (λ y. (c.type_inv.rows y).fits) line in
    record { row_set = row_set forms c.form_of_counts.new.out line long room _ e; stays_under = row_set_under forms c.form_of_counts.new.out line long room c.requires.under (λ x. omega (arith, at_kind e x, small x)) }
