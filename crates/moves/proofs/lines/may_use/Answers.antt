-- The test is of the tokens of the line's kind, which is one of the card's.
use native.Mathlib.Omega.{arith}
use mathlib.Core.Path.{ap}
use Prim.Native.Nat.{ℕ, ◌<◌}
use lib.Dec.{ltb}
use Rattle.model.specs.Field.{at}
use Rattle.sheet.proofs.Laws.{kind_under, kinds_most}
use Rattle.moves.proofs.lines.may_use.Goals as goal
use Rattle.moves.proofs.lines.may_use.Goals.{After-line_kind-kind}

-- The line's kind is one of the field's.
small : (c : After-line_kind-kind) → c.line_kind-kind.result < 32
small c =
    let read = c.requires.reads in
    let j = c.args.line in
    omega (arith, c.line_kind-kind.ensures, kind_under read j c.requires.line_lt_lines, kinds_most read)

pub offset_bounds-field-kind : goal.offset_bounds-field-kind
offset_bounds-field-kind c = omega (arith, small (goal.at.offset_bounds-field-kind c).After-line_kind-kind)

pub bounds-field-kind : goal.bounds-field-kind
bounds-field-kind c = small (goal.at.bounds-field-kind c).After-line_kind-kind

pub returns : goal.returns
returns c = ap (λ (k : ℕ). ltb 0 (at c.args.field.now k)) c.line_kind-kind.ensures
