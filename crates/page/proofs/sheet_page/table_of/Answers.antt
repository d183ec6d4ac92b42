-- `table_of`: the front of the array that the rows were written to.
use mathlib.Core.Path.{◌∙◌, ap}
use Prim.Native.Nat.{◌*◌}
use native.Mathlib.Omega.{arith}
use lib.ListN.{take, replicate}
use Rattle.filer.proofs.Rows.{square_most}
use Rattle.filer.proofs.Writing.{table_long}
use Rattle.filer.specs.Settlement.{table_in}
use Rattle.page.proofs.Pages.{front}
use borrow.Author.Rules.{rules}
use Rattle.page.proofs.sheet_page.table_of.Goals as goal

pub write_table-requires : goal.write_table-requires
write_table-requires c = record { rows_len = (search rules, c.requires); kinds_in_bounds = omega (arith, square_most c.args.kinds c.requires) }

pub returns : goal.returns
returns c =
    let n = c.args.kinds in
    ap (take (n * n)) c.write_table.ensures ∙ front (n * n) (table_in n c.args.base.now.rows) (replicate 1024 0) (table_long n c.args.base.now.rows)
