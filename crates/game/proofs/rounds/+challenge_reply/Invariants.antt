-- The cycle of challenge and reply: what falls from call to call. A round left counts 2048, and at the same number of rounds a reply comes before the challenges to the pair that it leaves, each of the two
-- by what is left of its numbers.
use Prim.Native.Nat.{◌+◌, ◌*◌, ◌-◌}
use Rattle.game.proofs.rounds.+challenge_reply.Given as goal

-- What falls from call to call of challenge.
abbrev pub decreases-challenge : goal.decreases-challenge
decreases-challenge l = 2048 * l.part.rounds + (l.part.to - l.part.from)

-- What falls from call to call of reply.
abbrev pub decreases-reply : goal.decreases-reply
decreases-reply l = 2048 * l.part.rounds + 1024 + (l.part.to - l.part.from)
