-- The last of three tests decides.
use mathlib.Core.Bool.{true}
use mathlib.Core.List.{List}
use mathlib.Core.Logic.{◌↔◌}
use mathlib.Core.Path.{◌≡◌}
use Prim.Native.Nat.{ℕ}
use native.Mathlib.Omega.{arith}
use lib.ListN.{length}
use Rattle.model.specs.Field.{unit}
use Rattle.model.specs.Limits.{most_kinds}
use Rattle.tables.specs.Table.{row_in}
use Rattle.tables.specs.Senses.{sense_of, SharesTotal}
use Rattle.tables.specs.Class.{AlikeIn, KindMarks}
use Rattle.tables.proofs.Tables.{tells_other, told_not, lent_length}
use Rattle.tables.proofs.Products.{uses_row, shares_row, passes_tells}
use Rattle.row_tests.proofs.passes.passes.Goals as goal
use Rattle.row_tests.proofs.passes.passes.Goals.{After-row_of-row, After-shares_total, After-uses_alike-alike}

-- The row is as long as there are kinds.
row_long : (c : After-row_of-row) → length c.row_of-row.result.now ≡ most_kinds
row_long c =
    lent_length c.rows.result.now c.args.kind (omega (arith, c.rows.ensures.long, c.requires.kind_lt_most_kinds.0)) c.row_of-row.ensures

pub shares_total-requires : goal.shares_total-requires
shares_total-requires c = row_long (goal.at.shares_total-requires c).After-row_of-row

pub uses_alike-alike-requires : goal.uses_alike-alike-requires
uses_alike-alike-requires c =
    (c.requires.kind_lt_most_kinds.1, c.requires.kind_lt_most_kinds.0, omega (arith, row_long (goal.at.uses_alike-alike-requires c).After-row_of-row))

-- What the first test tells of the row, and the second.
shares : (c : After-shares_total)
    → let args = c.args in
    (c.shares_total.result ≡ true) ↔ SharesTotal (sense_of args.sense) (row_in args.effects.now.rows args.kind)
shares c =
    let args = c.args in
    shares_row (sense_of args.sense) args.effects.now.rows args.kind (rw c.rows.ensures.lent at c.row_of-row.ensures) c.shares_total.ensures

uses : (c : After-uses_alike-alike)
    → let args = c.args in
    (classes : List ℕ) → KindMarks args.effects.now.lines classes args.marks.now → (c.uses_alike-alike.result ≡ true) ↔ AlikeIn args.effects.now.lines classes (unit args.kind) (row_in args.effects.now.rows args.kind)
uses c classes K =
    let args = c.args in
    uses_row args.effects.now.rows args.effects.now.lines classes args.kind (rw c.rows.ensures.lent at c.row_of-row.ensures) (c.uses_alike-alike.ensures _ classes K)

pub returns-then-alike : goal.returns-then-alike
returns-then-alike c = λ classes K. passes_tells ((shares (goal.at.returns-then-alike c).After-shares_total).0 c.if-shares_total.true) ((uses (goal.at.returns-then-alike c).After-uses_alike-alike classes K).0 c.if-alike.true) c.all_answered.ensures

pub returns-else-alike : goal.returns-else-alike
returns-else-alike c = λ classes K. tells_other (λ w. told_not (uses (goal.at.returns-else-alike c).After-uses_alike-alike classes K) c.if-alike.false w.uses)

pub returns-else-shares_total : goal.returns-else-shares_total
returns-else-shares_total c = λ classes K. tells_other (λ w. told_not (shares (goal.at.returns-else-shares_total c).After-shares_total) c.if-shares_total.false w.shares)
