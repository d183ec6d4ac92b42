use Rattle.std.proofs.Common.{rules, arith, refl, ◌≡◌, ◌+◌, ◌*◌, ◌≤◌, length}
use Rattle.rows.specs.Row.{LowersKind}
use Rattle.tables.proofs.Tables.{told_not}
use Rattle.rows.proofs.RowSearch.{own_first, searched_skip, searched_unfound, searched_failed, searched_passed, searched_row, searched_all, searched_atom}
use Rattle.rows.proofs.row.told_row.Goals as goal
use Rattle.rows.proofs.row.told_row.Goals.{After-from-line, then-suits+in-Some+else-passes, then-suits+in_default, else-suits}

-- The first of the kind's own lines is one that lowers the norm.
own_line : (c : After-from-line) → LowersKind c.args.lines.now c.args.kind c.from-line.result
own_line c = rw c.from-line.ensures (own_first c.args.lines.now c.requires.lists.0 c.requires.lists.1)

pub suits-requires-clause-own_bound : goal.suits-requires-clause-own_bound
suits-requires-clause-own_bound c = ((own_line (goal.at.suits-requires-clause-own_bound c).After-from-line).0.0, c.loop-other-test.true)

pub told-requires-clause-own_bound : goal.told-requires-clause-own_bound
told-requires-clause-own_bound c = ((own_line (goal.at.told-requires-clause-own_bound c).After-from-line).0.0, c.loop-other-test.true)

pub returns-then-passes : goal.returns-then-passes
returns-then-passes c =
    let long : length c.in-Some.counts ≡ 32 = search rules in
    let room : c.args.kind * 32 + 32 ≤ length c.loop-other.rows = omega (arith, c.loop-other.invariant.long, c.requires.tables.rows_long, c.requires.kind_lt_most_kinds.0) in
    let suited = c.suits.ensures.0 c.if-suits.true in
    let passed = ((rw c.new-effects.ensures at c.passes.ensures) _ c.requires.kind_marks).0 c.if-passes.true in
    let H = c.loop-other.invariant in
    let lw = own_line (goal.at.returns-then-passes c).After-from-line in
    let hm = c.loop-other-test.true in
    record { others_kept = searched_passed H lw hm suited c.in-Some.ensures refl long room c.set_row.ensures; by_index = searched_row H lw hm suited c.in-Some.ensures refl long room c.set_row.ensures passed }

pub loop-other-preserved : goal.loop-other-preserved
loop-other-preserved c =
    let room : c.args.kind * 32 + 32 ≤ length c.loop-other.rows = omega (arith, c.loop-other.invariant.long, c.requires.tables.rows_long, c.requires.kind_lt_most_kinds.0) in
    let H = c.loop-other.invariant in
    let lw = own_line (goal.at.loop-other-preserved c).After-from-line in
    let hm = c.loop-other-test.true in
    elim c.if-suits.branch [
      | then-suits+in-Some+else-passes w ↦
          let long : length w.in-Some.counts ≡ 32 = search rules in
          rw w.rows-is
          (searched_failed H lw hm (c.suits.ensures.0 w.if-suits.true) w.in-Some.ensures refl long room w.set_row.ensures w.set_row.auto.rows (told_not ((rw w.new-effects.ensures at w.passes.ensures) _ c.requires.kind_marks) w.if-passes.false))
      | then-suits+in_default w ↦ rw w.rows-is (searched_unfound H lw hm (c.suits.ensures.0 w.if-suits.true) w.in_default.ensures refl)
      | else-suits w ↦ rw w.rows-is (searched_skip H lw hm (told_not c.suits.ensures w.if-suits.false))
    ]

pub returns : goal.returns
returns c =
    let H = c.loop-other.invariant in
    let left = c.loop-other-test.false in
    record { others_kept = searched_all H (own_line (goal.at.returns c).After-from-line) left c.set_atom.ensures; by_index = searched_atom H (own_line (goal.at.returns c).After-from-line) left c.set_atom.ensures }
