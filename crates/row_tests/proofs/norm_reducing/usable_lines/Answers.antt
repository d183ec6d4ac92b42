use Rattle.std.proofs.Common.{arith, length-take}
use Rattle.tables.specs.Lines.{lines_in}
use Rattle.tables.proofs.Tables.{told_not}
use Rattle.tables.proofs.LineLists.{listed_skip, listed_more, listed_all}
use Rattle.row_tests.proofs.norm_reducing.usable_lines.Goals as goal
use Rattle.row_tests.proofs.norm_reducing.usable_lines.Goals.{then-is_usable, else-is_usable}

pub loop-line-preserved : goal.loop-line-preserved
loop-line-preserved c =
    let h = c.loop-line.invariant in
    elim c.if-is_usable.branch [
      | then-is_usable w ↦ rw (w.list-is, w.count-is) (listed_more h (omega (arith, c.requires.2)) (c.is_usable.ensures.0 w.if-is_usable.true))
      | else-is_usable w ↦ rw (w.list-is, w.count-is) (listed_skip h (told_not c.is_usable.ensures w.if-is_usable.false))
    ]

pub returns : goal.returns
returns c =
    let h = c.loop-line.invariant in
    let l = listed_all h {n = lines_in c.args.lines.now} (omega arith) (omega arith) in
    (simp length-take (omega (arith, h.within, c.requires.2)), record { entries = λ i. (λ a. let p = (l.entries i).0 a in ((p.0, p.1.0), p.1.1), λ u. (l.entries i).1 (u.0.0, (u.0.1, u.1))) })
