-- By the norms of both, where the kind has one.
use native.Mathlib.Omega.{arith}
use Rattle.norms.proofs.Gains.{gain_out, gain_in}
use Rattle.norms.proofs.lines.line_gain.Goals as goal

pub returns-then-own-eq0 : goal.returns-then-own-eq0
returns-then-own-eq0 c =
    gain_out c.requires.accepts c.args.line (omega (arith, c.own_norm-own.ensures, c.if-own-eq0.true))

pub returns-then-own-left : goal.returns-then-own-left
returns-then-own-left c =
    rw (c.left_norm-left.ensures, c.own_norm-own.ensures) (gain_in c.requires.accepts c.args.line (λ z. omega (arith, c.own_norm-own.ensures, c.if-own-eq0.false)))

pub returns-else-own-left : goal.returns-else-own-left
returns-else-own-left c =
    omega (arith, c.left_norm-left.ensures, c.own_norm-own.ensures, c.if-own-left.false, gain_in c.requires.accepts c.args.line (λ z. omega (arith, c.own_norm-own.ensures, c.if-own-eq0.false)))
