-- A kind without a norm need not; an atom is its own row; else the row is the part of the table that holds it.
use native.Mathlib.Omega.{arith}
use Rattle.tables.proofs.Tables.{tells_same, given_some, lent_length}
use Rattle.tables.proofs.Products.{atom_uses, uses_row}
use Rattle.row_tests.proofs.expansion.row_expands.Goals as goal

pub returns-then-norm-eq0 : goal.returns-then-norm-eq0
returns-then-norm-eq0 c = λ lines classes K. tells_same (λ p. absurd (omega (arith, c.if-norm-eq0.true)))

pub returns-then-is_atom : goal.returns-then-is_atom
returns-then-is_atom c =
    λ lines classes K. tells_same (λ _. atom_uses lines classes c.args.kind (c.requires.kind_value (c.is_atom.ensures.0 c.if-is_atom.true)))

pub uses_alike-requires : goal.uses_alike-requires
uses_alike-requires c =
    (c.requires.marks_len.0, c.requires.marks_len.2, omega (arith, lent_length c.args.rows.now c.args.kind (omega (arith, c.requires.marks_len.1, c.requires.marks_len.2)) c.row_of.ensures))

pub returns : goal.returns
returns c =
    let some = c.if-norm-eq0.false in
    λ lines classes K. given_some (omega (arith, some)) (uses_row c.args.rows.now lines classes c.args.kind c.row_of.ensures (c.uses_alike.ensures lines classes K))
