-- One token of the line's kind goes, and then the line's counts come.
use borrow.Author.Rules.{rules}
use native.Mathlib.Omega.{arith}
use mathlib.Core.Path.{◌≡◌, ap, ◌∙◌}
use Prim.Native.Nat.{◌≤◌}
use lib.ListN.{length}
use Rattle.model.specs.Field.{at}
use Rattle.model.specs.Sheet.{line_of}
use Rattle.sheet.proofs.Laws.{Bytes, line_counts_at, line_counts_length, left_under, kinds_are, kinds_most}
use Rattle.sheet.proofs.Plus.{plus_at}
use Rattle.moves.proofs.Fields.{less_bounded, addable, fired}
use Rattle.moves.proofs.fire.use_line.Goals as goal
use Rattle.moves.proofs.fire.use_line.Goals.{After-less_one, After-line_counts}

-- A line has no more counts than the field.
shorter : (c : After-line_counts) → length c.line_counts.result.now ≤ length c.less_one.new.field
shorter c =
    let a = c.args in
    omega (arith, ap length c.line_counts.ensures, line_counts_length a.sheet.now a.line, kinds_are c.requires.reads, kinds_most c.requires.reads, c.requires.bounded.long, c.less_one.auto.field)

-- The counts are those that the line leaves.
leaves : (c : After-line_counts) → at c.line_counts.result.now ≡ (line_of c.args.sheet.now c.args.line).left
leaves c = let a = c.args in ap at c.line_counts.ensures ∙ line_counts_at a.sheet.now a.line

-- The sheet is of bytes.
bytes : (c : After-less_one) → Bytes c.args.sheet.now
bytes c = λ k. search rules

pub add_counts-requires : goal.add_counts-requires
add_counts-requires c =
    let a = c.args in
    record {
      within = shorter (goal.at.add_counts-requires c).After-line_counts;
      fits = addable (line_of a.sheet.now a.line) c.less_one.new.field c.line_counts.result.now (leaves (goal.at.add_counts-requires c).After-line_counts)
          (left_under a.sheet.now a.line (bytes (goal.at.add_counts-requires c).After-less_one))
          (less_bounded 1 _ _ _ c.less_one.ensures c.less_one.auto.field c.requires.bounded);
    }

pub returns : goal.returns
returns c =
    let a = c.args in
    fired (line_of a.sheet.now a.line) c.line_kind.result a.field.now c.less_one.new.field c.line_counts.result.now c.add_counts.new.field
    c.line_kind.ensures
    c.less_one.ensures
    (leaves (goal.at.returns c).After-line_counts)
    (ap at c.add_counts.ensures ∙ plus_at c.less_one.new.field c.line_counts.result.now (shorter (goal.at.returns c).After-line_counts))
