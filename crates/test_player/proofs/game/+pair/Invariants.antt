-- The measures of the cycle's five functions: the rounds fall from pair to pair; within a pair, from every challenge to one, to some reply and to one. The loops go through the lines: what is
-- left of the budget, cut at what the lines from one on come to, is the budget cut at what all come to.
use Rattle.std.proofs.Common.{◌+◌, ◌*◌}
use Rattle.model.specs.Field.{at}
use Rattle.model.specs.Sheet.{line_of, card_of}
use Rattle.model.specs.Walk.{try_replies, try_challenges}
use Rattle.test_player.specs.Played.{challenger, sense_of, leaves_in}
use Rattle.test_player.proofs.Lines.{Remains}
use Rattle.test_player.proofs.game.+pair.Given as goal

abbrev pub decreases-challenge_holds : goal.decreases-challenge_holds
decreases-challenge_holds l = 8 * l.turn.rounds + 7

abbrev pub decreases-every_challenge : goal.decreases-every_challenge
decreases-every_challenge l = 8 * l.turn.rounds + 8

abbrev pub decreases-pair_holds : goal.decreases-pair_holds
decreases-pair_holds l = 8 * l.rounds + 1

abbrev pub decreases-reply_holds : goal.decreases-reply_holds
decreases-reply_holds l = 8 * l.turn.rounds + 5

abbrev pub decreases-some_reply : goal.decreases-some_reply
decreases-some_reply l = 8 * l.turn.rounds + 6

abbrev pub invariant-every_challenge-loop-line : goal.invariant-every_challenge-loop-line
invariant-every_challenge-loop-line l =
    Remains (try_challenges (leaves_in (sense_of l.turn.totals) (challenger l.turn.second) (card_of l.sheet) l.turn.rounds) (card_of l.sheet).lines (at l.field) (at l.other)) l.sheet l.budget l.left l.line

abbrev pub invariant-some_reply-loop-line : goal.invariant-some_reply-loop-line
invariant-some_reply-loop-line l =
    Remains (try_replies (leaves_in (sense_of l.turn.totals) (challenger l.turn.second) (card_of l.sheet) l.turn.rounds) (line_of l.sheet l.challenge) (at l.used) (at l.other)) l.sheet l.budget l.left l.line
