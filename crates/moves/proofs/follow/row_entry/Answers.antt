-- A line's code is one of the card's, which are no more than a row has entries.
use native.Mathlib.Omega.{arith}
use Rattle.sheet.proofs.Laws.{codes_most, code_under}
use Rattle.moves.proofs.follow.row_entry.Goals as goal

pub returns : goal.returns
returns c =
    (cc, omega (arith, code_under c.requires.reads c.args.line c.requires.line_lt_lines, codes_most c.requires.reads))
