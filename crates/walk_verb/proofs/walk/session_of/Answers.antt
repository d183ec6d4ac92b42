-- A desk that there is gets the allowance; one that there is not changes nothing.
use mathlib.Core.Path.{sym, ◌∙◌}
use native.Mathlib.Omega.{arith}
use lib.Seq.{set_out}
use Rattle.walk_verb.specs.Texts.{given_to}
use Rattle.walk_verb.proofs.walk.session_of.Goals as goal
use Rattle.walk_verb.proofs.walk.session_of.Goals.{then-desk-lt-DESKS, else-desk-lt-DESKS}

pub returns : goal.returns
unfolding given_to
returns c =
    c.open.ensures
    ∙ elim c.if-desk-lt-DESKS.branch [
      | then-desk-lt-DESKS w ↦ w.allowances-is
      | else-desk-lt-DESKS w ↦ w.allowances-is ∙ sym (set_out _ c.args.desk _ (omega (arith, w.if-desk-lt-DESKS.false)))
    ]
