use native.Mathlib.Omega.{arith}
use Rattle.sheet.proofs.Laws.{lines_are, lines_most, kinds_most, codes_most, kind_under, code_under}
use Rattle.tables.proofs.Tables.{told_not}
use Rattle.rows.proofs.LineTable.{filled_none, filled_two, filled_three, lowers_tells, filled_all}
use Rattle.rows.proofs.line_table.line_table.Goals as goal
use Rattle.rows.proofs.line_table.line_table.Goals.{then-lowers, else-lowers}

pub loop-line-init : goal.loop-line-init
loop-line-init c = filled_none (lines_most c.requires.reads)

pub overflow_cast-table : goal.overflow_cast-table
overflow_cast-table c =
    omega (arith, c.line_kind.ensures, kind_under c.requires.reads c.loop-line.line c.loop-line-test.true, kinds_most c.requires.reads)

pub overflow_cast-table-in-loop-line : goal.overflow_cast-table-in-loop-line
overflow_cast-table-in-loop-line c =
    omega (arith, c.line_code.ensures, code_under c.requires.reads c.loop-line.line c.loop-line-test.true, codes_most c.requires.reads)

pub loop-line-preserved : goal.loop-line-preserved
loop-line-preserved c =
    let h = c.loop-line.invariant in
    let l = c.loop-line-test.true in
    let t = lowers_tells c.args.sheet.now c.loop-line.line (omega (arith, l, lines_are c.requires.reads)) c.lowers.ensures in
    elim c.if-lowers.branch [ then-lowers w ↦ rw w.table-is (filled_three h l _ _ c.line_kind.ensures c.line_code.ensures (t.0 w.if-lowers.true)) | else-lowers w ↦ rw w.table-is (filled_two h l _ _ c.line_kind.ensures c.line_code.ensures (told_not t w.if-lowers.false)) ]

pub returns : goal.returns
returns c = filled_all (lines_are c.requires.reads) c.loop-line.invariant c.loop-line-test.false
