use native.Mathlib.Omega.{arith}
use mathlib.Core.Path.{ap}
use Rattle.test_player.specs.Played.{counted_of}
use Rattle.second_reader.proofs.Counts.{fits_fewer}
use Rattle.test_player.proofs.Rounds.{rounds_start, rounds_end, rounds_bound, rounds_next}
use Rattle.test_player.proofs.game.try_rounds.Goals as goal

pub loop-rounds-init : goal.loop-rounds-init
loop-rounds-init c = rounds_start _ _ _ _ _ 0 _

pub returns-then-rounds-ge-ROUNDS : goal.returns-then-rounds-ge-ROUNDS
returns-then-rounds-ge-ROUNDS c = rounds_bound _ _ _ _ _ _ c.loop-rounds.invariant c.loop-rounds-test.true c.if-rounds-ge-ROUNDS.true

pub pair_holds-requires : goal.pair_holds-requires
pair_holds-requires c =
    let few = c.if-rounds-ge-ROUNDS.false in
    record { sheet_bound = c.requires.sheet_bound; fits = (fits_fewer _ (omega (arith, few)) c.requires.fits.0, fits_fewer _ (omega (arith, few)) c.requires.fits.1) }

pub returns-in-Fails : goal.returns-in-Fails
returns-in-Fails c =
    rounds_next _ _ _ _ _ _ c.loop-rounds.invariant c.loop-rounds-test.true c.if-rounds-ge-ROUNDS.false c.pair_holds.ensures (ap counted_of c.in-Fails.is)

pub returns-in-Spent : goal.returns-in-Spent
returns-in-Spent c =
    rounds_next _ _ _ _ _ _ c.loop-rounds.invariant c.loop-rounds-test.true c.if-rounds-ge-ROUNDS.false c.pair_holds.ensures (ap counted_of c.in-Spent.is)

pub loop-rounds-preserved : goal.loop-rounds-preserved
loop-rounds-preserved c =
    rounds_next _ _ _ _ _ _ c.loop-rounds.invariant c.loop-rounds-test.true c.if-rounds-ge-ROUNDS.false c.pair_holds.ensures (ap counted_of c.in-Holds.is)

pub returns : goal.returns
returns c = rounds_end _ _ _ _ _ _ c.loop-rounds.invariant (omega arith)
