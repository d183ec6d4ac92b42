use mathlib.Core.Bool.{Bool}
use mathlib.Core.Path.{sym, ◌∙◌, ap}
use native.Mathlib.Omega.{arith}
use Prim.Native.Nat.{ℕ, ◌<◌}
use Rattle.model.specs.Card.{reached}
use Rattle.model.specs.Sheet.{card_of}
use Rattle.model.specs.Limits.{most_kinds}
use Rattle.sheet.proofs.Laws.{lines_are, kinds_most, lines_most}
use Rattle.norms.proofs.Laws.{kind_most}
use Rattle.part_sheet.proofs.Lines.{line_room, reached_yes, reached_no, taken_none, taken_out, taken_copied, taken_all}
use Rattle.part_sheet.proofs.part.copy_lines.Goals as goal
use Rattle.part_sheet.proofs.part.copy_lines.Goals.{After-line_kind-kind, then-norm-gt0, else-norm-gt0}

pub overflow_add-width : goal.overflow_add-width
overflow_add-width c =
    omega (arith, kinds_most c.requires.accepts.reads)

pub loop-line-init : goal.loop-line-init
loop-line-init c = taken_none _ _

-- The line's kind is one of the card's.
own_kind : (c : After-line_kind-kind) → c.line_kind-kind.result < most_kinds
own_kind c =
    omega (arith, c.line_kind-kind.ensures, kind_most c.requires.accepts.reads c.loop-line.line (omega arith))

pub offset_bounds-norms-kind : goal.offset_bounds-norms-kind
offset_bounds-norms-kind c = omega (arith, own_kind (goal.at.offset_bounds-norms-kind c).After-line_kind-kind)

pub bounds-norms-kind : goal.bounds-norms-kind
bounds-norms-kind c = own_kind (goal.at.bounds-norms-kind c).After-line_kind-kind

pub line_start-requires : goal.line_start-requires
line_start-requires c =
    let loop = c.loop-line in
    (kinds_most c.requires.accepts.reads, omega (arith, lines_most c.requires.accepts.reads))

pub line_start-requires-then-norm-gt0 : goal.line_start-requires-then-norm-gt0
line_start-requires-then-norm-gt0 c =
    let loop = c.loop-line in
    (kinds_most c.requires.accepts.reads, omega (arith, lines_most c.requires.accepts.reads, loop.invariant.few))

pub copy_bytes-requires : goal.copy_bytes-requires
copy_bytes-requires c =
    let loop = c.loop-line in
    let R = c.requires.accepts.reads in
    let l : loop.line < c.args.card.lines = omega (arith, c.loop-line-test.true) in
    let here = line_room R loop.line loop.line (omega arith) l in (
      omega (arith, c.line_start.ensures.0, here),
      omega (arith, c.line_start-then-norm-gt0.ensures.0, here, line_room R loop.count loop.line loop.invariant.few l, c.requires.sheet_in_bounds, loop.invariant.long),
    )

pub loop-line-preserved : goal.loop-line-preserved
loop-line-preserved c =
    let loop = c.loop-line in
    let read = sym c.line_kind-kind.ensures in
    let reached_kind : ℕ → Bool = reached (card_of c.args.sheet.now) in
    elim c.if-norm-gt0.branch [
      | then-norm-gt0 w ↦ rw (w.part-is, w.count-is) (taken_copied _ _ c.requires.accepts.reads loop.invariant (ap reached_kind read ∙ reached_yes c.requires.accepts _ w.if-norm-gt0.true) w.line_start.ensures.0 w.line_start-then-norm-gt0.ensures.0 w.copy_bytes.ensures)
      | else-norm-gt0 w ↦ rw (w.part-is, w.count-is) (taken_out _ _ loop.invariant (ap reached_kind read ∙ reached_no c.requires.accepts _ w.if-norm-gt0.false))
    ]

pub shape_of-part : goal.shape_of-part
shape_of-part c = c.loop-line.invariant.long

pub returns : goal.returns
returns c =
    let R = c.requires.accepts.reads in
    taken_all _ _ c.loop-line.invariant (omega (arith, lines_are R, c.loop-line-test.false))
