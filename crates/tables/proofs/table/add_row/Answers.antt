-- The row of an atom is the kind itself.
use native.Mathlib.Omega.{arith}
use Rattle.tables.proofs.Tables.{lent_length, row_added_atom, row_bound, row_added}
use Rattle.tables.proofs.table.add_row.Goals as goal

pub returns-then-is_atom : goal.returns-then-is_atom
returns-then-is_atom c =
    row_added_atom c.args.count c.args.sum.now c.args.rows.now c.args.kind (c.is_atom.ensures.0 c.if-is_atom.true) c.requires.kind_value (omega (arith, c.requires.kind_lt_most_kinds.0, c.requires.kind_lt_most_kinds.2))

pub add_times-requires : goal.add_times-requires
add_times-requires c = record { row_in_bounds = omega (arith, lent_length c.args.rows.now c.args.kind (omega (arith, c.requires.kind_lt_most_kinds.0, c.requires.kind_lt_most_kinds.1)) c.row_of.ensures, c.requires.kind_lt_most_kinds.2); by_index = row_bound c.args.count c.args.sum.now c.args.rows.now c.args.kind c.row_of.ensures c.requires.by_index }

pub returns : goal.returns
returns c =
    row_added c.args.count c.args.sum.now c.add_times.new.sum c.args.rows.now c.args.kind c.row_of.ensures c.add_times.ensures
