use Rattle.std.proofs.Common.{arith, sym, ◌∙◌, ◌≡◌, ◌↔◌, true}
use Rattle.model.specs.Field.{at}
use Rattle.tables.proofs.Tables.{told_not, lent_row, counts_equal}
use Rattle.stages.proofs.Keeping.{row_long, kind_new, kind_left}
use Rattle.stages.proofs.kept.keep_kind.Goals as goal
use Rattle.stages.proofs.kept.keep_kind.Goals.{After-eq}

-- The test tells whether the two rows are the same.
told : (c : After-eq) → (c.eq.result ≡ true) ↔ (at c.row_of-old.result.now ≡ at c.row_of.result.now)
told c =
    let old = row_long c.args.before.now c.args.kind (omega (arith, c.requires.before_len.0, c.requires.kind_lt_most_kinds)) c.row_of-old.ensures in
    let new = row_long c.args.after.now c.args.kind (omega (arith, c.requires.before_len.1, c.requires.kind_lt_most_kinds)) c.row_of.ensures in
    counts_equal _ _ _ (new ∙ sym old) c.eq.ensures

pub returns-then-eq : goal.returns-then-eq
returns-then-eq c =
    let old = lent_row c.args.before.now c.args.kind c.row_of-old.ensures in
    let new = lent_row c.args.after.now c.args.kind c.row_of.ensures in
    kind_left c.args.before.now c.args.after.now c.args.stage c.args.kind (sym old ∙ (told (goal.at.returns-then-eq c).After-eq).0 c.if-eq.true ∙ new)

pub set_row-requires : goal.set_row-requires
set_row-requires c =
    (omega (arith, c.requires.before_len.2, c.requires.kind_lt_most_kinds), row_long c.args.before.now c.args.kind (omega (arith, c.requires.before_len.0, c.requires.kind_lt_most_kinds)) c.row_of-old.ensures)

pub returns : goal.returns
returns c =
    let old = lent_row c.args.before.now c.args.kind c.row_of-old.ensures in
    let new = lent_row c.args.after.now c.args.kind c.row_of.ensures in
    let long = row_long c.args.before.now c.args.kind (omega (arith, c.requires.before_len.0, c.requires.kind_lt_most_kinds)) c.row_of-old.ensures in
    kind_new c.args.before.now c.args.after.now c.args.stage c.args.kind (λ e. told_not (told (goal.at.returns c).After-eq) c.if-eq.false (old ∙ e ∙ sym new))
    (omega (arith, c.requires.before_len.3, c.requires.kind_lt_most_kinds)) (omega (arith, c.requires.before_len.2, c.requires.kind_lt_most_kinds)) c.row_of-old.ensures long c.set_row.ensures
