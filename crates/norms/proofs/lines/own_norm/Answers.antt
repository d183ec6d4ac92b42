-- The line's kind is one of the card's.
use mathlib.Core.Path.{◌∙◌, ap}
use native.Mathlib.Omega.{arith}
use Rattle.model.specs.Norm.{kind_norm}
use Rattle.model.specs.Sheet.{card_of}
use Rattle.norms.proofs.Laws.{kind_most, norm_at}
use Rattle.norms.proofs.lines.own_norm.Goals as goal

pub offset_bounds-norms-kind : goal.offset_bounds-norms-kind
offset_bounds-norms-kind c = omega (arith, kind_most c.requires.accepts.reads c.args.line c.requires.line_lt_lines, c.line_kind-kind.ensures)

pub bounds-norms-kind : goal.bounds-norms-kind
bounds-norms-kind c = omega (arith, kind_most c.requires.accepts.reads c.args.line c.requires.line_lt_lines, c.line_kind-kind.ensures)

pub returns : goal.returns
returns c =
    c.from.ensures ∙ norm_at c.requires.accepts c.line_kind-kind.result ∙ ap (kind_norm (card_of c.args.sheet.now)) c.line_kind-kind.ensures
