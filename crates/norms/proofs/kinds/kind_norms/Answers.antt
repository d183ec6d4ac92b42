use mathlib.Core.Path.{◌≡◌, ◌∙◌, ap}
use mathlib.Core.List.{List}
use Prim.Native.Nat.{ℕ}
use native.Mathlib.Omega.{arith}
use Rattle.std.proofs.lemmas.Bool.Decides.{Decides-eqb}
use Rattle.std.proofs.lemmas.Slice.Eq.{slice_eq-Decides}
use Rattle.model.specs.Field.{at}
use Rattle.norms.specs.Sweep.{sweep_of}
use Rattle.norms.proofs.Sweeps.{swept_most, swept_start, swept_next, swept_end, swept_settled}
use Rattle.norms.proofs.kinds.kind_norms.Goals as goal

pub loop-turn-init : goal.loop-turn-init
loop-turn-init c = swept_start c.requires.reads

pub sweep-next-requires-clause-at_most : goal.sweep-next-requires-clause-at_most
sweep-next-requires-clause-at_most c = rw c.loop-turn.invariant (swept_most c.requires.reads c.loop-turn._turn)

pub returns-then-eq : goal.returns-then-eq
returns-then-eq c =
    let loop = c.loop-turn in
    let sweep = c.sweep-next in
    let same : sweep.result ≡ loop.values = (slice_eq-Decides Decides-eqb _ _ _ c.eq.ensures).0 c.if-eq.true in
    swept_settled c.requires.reads loop._turn loop.values sweep.result (omega arith) loop.invariant sweep.ensures same

pub loop-turn-preserved : goal.loop-turn-preserved
loop-turn-preserved c =
    let loop = c.loop-turn in
    c.sweep-next.ensures ∙ ap (λ (xs : List ℕ). sweep_of c.args.sheet.now (at xs)) loop.invariant ∙ swept_next c.requires.reads loop._turn

pub returns : goal.returns
returns c =
    c.loop-turn.invariant ∙ swept_end c.requires.reads c.loop-turn._turn (omega arith)
