-- The answers of the cycle: one challenge and the challenges in line order, a pair, one reply and the replies in line order.
use native.Mathlib.Omega.{arith}
use mathlib.Core.Path.{◌≡◌, refl, ap, ◌∙◌}
use Prim.Native.Nat.{ℕ, ◌+◌, ◌-◌, ◌<◌}
use Rattle.theory.proofs.Runs.{challenges, replies}
use Rattle.second_reader.proofs.Counts.{after_fits}
use Rattle.test_player.specs.Played.{counted_of}
use Rattle.test_player.proofs.Pairs.{pair_spent, pair_uneven, pair_zero}
use Rattle.test_player.proofs.Lines.{runs_start, runs_next, runs_end, challenge_played, challenge_passed, reply_played, reply_passed, left_first, left_second, pair_sides}
use Rattle.test_player.proofs.game.+pair.Goals as goal

-- A line in a loop is one of the sheet's.
line_under : {line count all : ℕ} → line < count → count ≡ all → line < all
line_under l e = omega arith

-- Rounds are left.
rounds_left : (r : ℕ) → (r ≡ 0 → ⊥) → r - 1 + 1 ≡ r
rounds_left r n = omega arith

-- One challenge, by whether the field may use its line.
pub challenge_holds-some_reply-requires : goal.challenge_holds-some_reply-requires
challenge_holds-some_reply-requires t c =
    (omega arith, (c.requires.sheet_bound, (after_fits c.field_after-used.ensures c.requires.fits.0, c.requires.fits.1)))

pub challenge_holds-returns-then-may_use : goal.challenge_holds-returns-then-may_use
challenge_holds-returns-then-may_use t c =
    challenge_played _ _ _ _ _ _ c.may_use.ensures c.if-may_use.true c.field_after-used.ensures.field c.some_reply.ensures

pub challenge_holds-returns-else-may_use : goal.challenge_holds-returns-else-may_use
challenge_holds-returns-else-may_use t c = challenge_passed _ _ _ _ _ _ c.may_use.ensures c.if-may_use.false

-- The challenges in line order.
pub every_challenge-loop-line-init : goal.every_challenge-loop-line-init
every_challenge-loop-line-init t c = runs_start (challenges _ _ _ _) _ _

pub every_challenge-returns-in-Fails : goal.every_challenge-returns-in-Fails
every_challenge-returns-in-Fails t c =
    runs_next (challenges _ _ _ _) _ _ _ c.loop-line.invariant (line_under c.loop-line-test.true c.lines-line-end.ensures.0) c.challenge_holds.ensures (ap counted_of c.in-Fails.is)

pub every_challenge-returns-in-Spent : goal.every_challenge-returns-in-Spent
every_challenge-returns-in-Spent t c =
    runs_next (challenges _ _ _ _) _ _ _ c.loop-line.invariant (line_under c.loop-line-test.true c.lines-line-end.ensures.0) c.challenge_holds.ensures (ap counted_of c.in-Spent.is)

pub every_challenge-loop-line-preserved : goal.every_challenge-loop-line-preserved
every_challenge-loop-line-preserved t c =
    runs_next (challenges _ _ _ _) _ _ _ c.loop-line.invariant (line_under c.loop-line-test.true c.lines-line-end.ensures.0) c.challenge_holds.ensures (ap counted_of c.in-Holds.is)

pub every_challenge-returns : goal.every_challenge-returns
every_challenge-returns t c = runs_end (challenges _ _ _ _) _ _ _ c.loop-line.invariant (omega (arith, c.lines-line-end.ensures))

-- A pair: what is looked at first, the first side's challenges at a round less, and then the second's.
pub pair_holds-returns-then-budget-eq0 : goal.pair_holds-returns-then-budget-eq0
pair_holds-returns-then-budget-eq0 t c = pair_spent _ _ _ _ _ _ c.if-budget-eq0.true

pub pair_holds-returns-then-not-shares_total : goal.pair_holds-returns-then-not-shares_total
pair_holds-returns-then-not-shares_total t c =
    pair_uneven _ _ _ _ _ _ c.if-budget-eq0.false c.shares_total.ensures c.if-not-shares_total.true

pub pair_holds-returns-then-rounds-eq0 : goal.pair_holds-returns-then-rounds-eq0
pair_holds-returns-then-rounds-eq0 t c =
    pair_zero _ _ _ _ _ _ c.if-budget-eq0.false c.shares_total.ensures c.if-not-shares_total.false c.if-rounds-eq0.true

pub pair_holds-every_challenge-requires : goal.pair_holds-every_challenge-requires
pair_holds-every_challenge-requires t c =
    let left = rounds_left c.args.rounds c.if-rounds-eq0.false in
    (omega arith, (c.requires.sheet_bound, (rw left c.requires.fits.0, rw left c.requires.fits.1)))

pub pair_holds-every_challenge-requires-in-Holds : goal.pair_holds-every_challenge-requires-in-Holds
pair_holds-every_challenge-requires-in-Holds t c =
    let left = rounds_left c.args.rounds c.if-rounds-eq0.false in
    (omega arith, (c.requires.sheet_bound, (rw left c.requires.fits.1, rw left c.requires.fits.0)))

pub pair_holds-returns-in-Holds : goal.pair_holds-returns-in-Holds
pair_holds-returns-in-Holds t c =
    c.every_challenge-in-Holds.ensures
    ∙ pair_sides _ _ _ _ _ _ c.if-budget-eq0.false c.shares_total.ensures c.if-not-shares_total.false c.if-rounds-eq0.false c.every_challenge.ensures (ap counted_of c.in-Holds.is)

pub pair_holds-returns-in-Fails : goal.pair_holds-returns-in-Fails
pair_holds-returns-in-Fails t c =
    pair_sides _ _ _ _ _ _ c.if-budget-eq0.false c.shares_total.ensures c.if-not-shares_total.false c.if-rounds-eq0.false c.every_challenge.ensures (ap counted_of c.in-Fails.is)

pub pair_holds-returns-in-Spent : goal.pair_holds-returns-in-Spent
pair_holds-returns-in-Spent t c =
    pair_sides _ _ _ _ _ _ c.if-budget-eq0.false c.shares_total.ensures c.if-not-shares_total.false c.if-rounds-eq0.false c.every_challenge.ensures (ap counted_of c.in-Spent.is)

-- One reply, by whether its line is one, and by which side challenged.
pub reply_holds-pair_holds-requires : goal.reply_holds-pair_holds-requires
reply_holds-pair_holds-requires t c =
    (omega arith, (c.requires.sheet_bound.0, (after_fits c.field_after-after.ensures c.requires.fits.1, c.requires.fits.0)))

pub reply_holds-pair_holds-requires-else-turn : goal.reply_holds-pair_holds-requires-else-turn
reply_holds-pair_holds-requires-else-turn t c =
    (omega arith, (c.requires.sheet_bound.0, (c.requires.fits.0, after_fits c.field_after-after.ensures c.requires.fits.1)))

pub reply_holds-returns-then-turn : goal.reply_holds-returns-then-turn
reply_holds-returns-then-turn t c =
    reply_played _ _ _ _ _ _ c.may_reply.ensures c.if-may_reply.true (left_second _ _ _ _ refl c.field_after-after.ensures.field c.if-turn.true c.pair_holds.ensures)

pub reply_holds-returns-else-turn : goal.reply_holds-returns-else-turn
reply_holds-returns-else-turn t c =
    reply_played _ _ _ _ _ _ c.may_reply.ensures c.if-may_reply.true (left_first _ _ _ _ refl c.field_after-after.ensures.field c.if-turn.false c.pair_holds-else-turn.ensures)

pub reply_holds-returns-else-may_reply : goal.reply_holds-returns-else-may_reply
reply_holds-returns-else-may_reply t c = reply_passed _ _ _ _ _ _ c.may_reply.ensures c.if-may_reply.false

-- The replies in line order.
pub some_reply-loop-line-init : goal.some_reply-loop-line-init
some_reply-loop-line-init t c = runs_start (replies _ _ _ _) _ _

pub some_reply-returns-in-Holds : goal.some_reply-returns-in-Holds
some_reply-returns-in-Holds t c =
    runs_next (replies _ _ _ _) _ _ _ c.loop-line.invariant (line_under c.loop-line-test.true c.lines-line-end.ensures.0) c.reply_holds.ensures (ap counted_of c.in-Holds.is)

pub some_reply-returns-in-Spent : goal.some_reply-returns-in-Spent
some_reply-returns-in-Spent t c =
    runs_next (replies _ _ _ _) _ _ _ c.loop-line.invariant (line_under c.loop-line-test.true c.lines-line-end.ensures.0) c.reply_holds.ensures (ap counted_of c.in-Spent.is)

pub some_reply-loop-line-preserved : goal.some_reply-loop-line-preserved
some_reply-loop-line-preserved t c =
    runs_next (replies _ _ _ _) _ _ _ c.loop-line.invariant (line_under c.loop-line-test.true c.lines-line-end.ensures.0) c.reply_holds.ensures (ap counted_of c.in-Fails.is)

pub some_reply-returns : goal.some_reply-returns
some_reply-returns t c = runs_end (replies _ _ _ _) _ _ _ c.loop-line.invariant (omega (arith, c.lines-line-end.ensures))
