use mathlib.Core.Bool.{Bool, true, false}
use mathlib.Core.Path.{◌≡◌, sym, ◌∙◌, ap}
use Prim.Native.Nat.{suc, ◌-◌, ◌<◌, min}
use native.Mathlib.Omega.{arith}
use lib.ListN.{get_or}
use Rattle.model.specs.Field.{at}
use Rattle.model.specs.Card.{reached}
use Rattle.model.specs.Sheet.{line_of, card_of}
use Rattle.model.specs.Limits.{most_kinds, norm_limit}
use Rattle.sheet.proofs.Laws.{kinds_most, kind_under}
use Rattle.weights.specs.Value.{read_value}
use Rattle.norms.proofs.Laws.{in_reach, kind_most, part_short, part_left}
use Rattle.norms.proofs.Sweeps.{found_start, found_skip, found_more, found_end}
use Rattle.norms.proofs.kinds.sweep.Goals as goal
use Rattle.norms.proofs.kinds.sweep.Goals.{After-line_kind-kind}

pub loop-j-init : goal.loop-j-init
loop-j-init c =
    let args = c.args in
    let s = args.sheet.now in
    found_start args.card.kinds (at args.values.now) (in_reach s) (line_of s) args.card.lines

-- The line's kind is one of the card's.
own_kind : (c : After-line_kind-kind) → c.line_kind-kind.result < most_kinds
own_kind c =
    omega (arith, c.line_kind-kind.ensures, kind_most c.requires.reads (c.loop-j.j - 1) (omega arith))

-- The array tells whether the line is of a reached kind.
line_in_reach : (c : After-line_kind-kind) (b : Bool)
    → get_or c.args.reached.now c.line_kind-kind.result false ≡ b → in_reach c.args.sheet.now (line_of c.args.sheet.now (c.loop-j.j - 1)) ≡ b
line_in_reach c b e =
    ap (reached (card_of c.args.sheet.now)) (sym c.line_kind-kind.ensures) ∙ sym (c.requires.by_index c.line_kind-kind.result) ∙ e

pub bounds-reached-kind : goal.bounds-reached-kind
bounds-reached-kind c = omega (arith, own_kind (goal.at.bounds-reached-kind c).After-line_kind-kind)

pub read_value-value-requires-clause-counts_len_bound : goal.read_value-value-requires-clause-counts_len_bound
read_value-value-requires-clause-counts_len_bound c = part_short c.requires.reads (c.loop-j.j - 1) _ c.line_counts.ensures

pub loop-j-preserved-then-reached-kind : goal.loop-j-preserved-then-reached-kind
loop-j-preserved-then-reached-kind c =
    let loop = c.loop-j in
    let kind = c.line_kind-kind in
    let a = c.args in
    let R = c.requires.reads in
    let value = c.read_value-value.ensures
    ∙ ap (λ x. min x (suc norm_limit)) (part_left R (loop.j - 1) _ c.line_counts.ensures (λ n f. read_value n (at a.values.now) f)) in
    found_more a.card.kinds (at a.values.now) (in_reach a.sheet.now) (line_of a.sheet.now) a.card.lines loop.j
    (omega arith) (omega arith) loop.next loop.invariant _ _ _ (kinds_most R) (kind_under R (loop.j - 1) (omega arith))
    (line_in_reach (goal.at.loop-j-preserved-then-reached-kind c).After-line_kind-kind true c.if-reached-kind.true) kind.ensures value c.lesser.ensures

pub loop-j-preserved : goal.loop-j-preserved
loop-j-preserved c =
    let a = c.args in
    let loop = c.loop-j in
    found_skip a.card.kinds (at a.values.now) (in_reach a.sheet.now) (line_of a.sheet.now) a.card.lines loop.j (omega arith) (omega arith)
    loop.next loop.invariant (line_in_reach (goal.at.loop-j-preserved c).After-line_kind-kind false c.if-reached-kind.false)

pub returns : goal.returns
returns c =
    found_end c.requires.reads (at c.args.values.now) c.loop-j.j _ (omega arith) c.loop-j.invariant
