-- What is written to its place in the table is the row of the stage before.
use borrow.Author.Rules.{rules}
use mathlib.Core.List.{List, ◌++◌}
use mathlib.Core.Path.{◌∙◌, ap}
use Prim.Native.Nat.{ℕ, ◌+◌, ◌-◌, ◌*◌}
use native.Mathlib.Omega.{arith}
use lib.ListN.{take, drop}
use Rattle.stages.specs.Kept.{form_before}
use Rattle.tables.proofs.Tables.{lent_row, lent_length}
use Rattle.numbering.proofs.Calls.{copied}
use Rattle.frequencies.proofs.Rows.{row_lowered, row_put, part_long}
use Rattle.frequencies.proofs.related.lower_row.Goals as goal

pub form_before-row-requires : goal.form_before-row-requires
form_before-row-requires c =
    let long = c.requires.rows_len in
    record { form_len = (lent_length c.args.rows.now c.args.kind (omega (arith, long.0, long.3)) c.row_of.ensures, long.1, long.2); by_index = rw (lent_row c.args.rows.now c.args.kind c.row_of.ensures) c.requires.by_index }

pub returns : goal.returns
returns c =
    let rows = c.args.rows.now in
    let kind = c.args.kind in
    let long = c.requires.rows_len in
    let row = c.form_before-row in
    row_lowered rows row.result long.0 long.3 (search rules) (row.ensures ∙ ap (form_before _ _ _) (lent_row rows kind c.row_of.ensures))
    (ap (λ (ys : List ℕ). take (kind * 32) rows ++ (ys ++ drop (kind * 32 + 32 - kind * 32) (drop (kind * 32) rows))) (copied _ _ _ c.write.ensures)
    ∙ row_put rows row.result _ kind (search rules) (part_long rows kind (omega (arith, long.0, long.3))))
