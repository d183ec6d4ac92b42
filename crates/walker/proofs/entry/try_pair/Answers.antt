-- The pair itself counts 1: where nothing is left for it, the walk is spent.
use native.Mathlib.Omega.{arith}
use mathlib.Core.Path.{◌∙◌}
use Rattle.model.specs.Field.{at}
use Rattle.model.specs.Limits.{most_rounds}
use Rattle.model.specs.Sheet.{card_of}
use Rattle.theory.proofs.Counted.{pair_spent}
use Rattle.sheet.proofs.Laws.{lines_most}
use Rattle.moves.proofs.Fields.{bounded_less}
use Rattle.game.proofs.Steps.{pair_challenged}
use Rattle.walker.proofs.entry.try_pair.Goals as goal

pub returns-then-left-eq0 : goal.returns-then-left-eq0
returns-then-left-eq0 c =
    let a = c.args in
    pair_spent (card_of a.sheet.now).lines (at a.first.now) (at a.second.now) a.left a.rounds c.if-left-eq0.true

pub overflow_mul-challenges : goal.overflow_mul-challenges
overflow_mul-challenges c = omega (arith, lines_most c.requires.reads.0)

pub challenge-requires : goal.challenge-requires
challenge-requires c =
    let h = c.requires.rounds_in_bounds in
    rw c.new-part.ensures (record {
      reads = c.requires.reads;
      rounds_nonzero = omega (arith, h);
      bounded = (bounded_less most_rounds c.args.rounds _ h.1 c.requires.bounded.0, bounded_less most_rounds c.args.rounds _ h.1 c.requires.bounded.1);
    })

pub returns : goal.returns
returns c =
    let a = c.args in
    rw c.new-part.ensures at c.challenge.ensures
    ∙ pair_challenged c.requires.reads.0 a.rounds a.left (at a.first.now) (at a.second.now) c.if-left-eq0.false (λ z. omega (arith, c.requires.rounds_in_bounds))
