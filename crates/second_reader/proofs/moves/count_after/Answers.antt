-- A token goes where the kind is the line's and there is one.
use native.Mathlib.Omega.{arith}
use Rattle.second_reader.proofs.Counts.{other_kind, none_there, one_goes}
use Rattle.second_reader.proofs.moves.count_after.Goals as goal

pub returns-then-kind-line_kind : goal.returns-then-kind-line_kind
returns-then-kind-line_kind c =
    (other_kind c.args.sheet.now c.args.line c.args.kind c.args.tokens c.line_left-left.result c.line_kind.result c.line_left-left.ensures.0 c.line_kind.ensures c.if-kind-line_kind.true, omega arith)

pub returns-then-tokens-eq0 : goal.returns-then-tokens-eq0
returns-then-tokens-eq0 c =
    (none_there c.args.sheet.now c.args.line c.args.kind c.args.tokens c.line_left-left.result c.line_kind.result c.line_left-left.ensures.0 c.line_kind.ensures c.if-tokens-eq0.true, omega arith)

pub returns : goal.returns
returns c =
    (one_goes c.args.sheet.now c.args.line c.args.kind c.args.tokens c.line_left-left.result c.line_kind.result c.line_left-left.ensures.0 c.line_kind.ensures c.if-kind-line_kind.false (omega arith), omega arith)
