-- A call that its checks refuse leaves the session as it was.
use mathlib.Core.Path.{sym, ◌∙◌}
use Rattle.theory.proofs.Answers.{demand1}
use Rattle.walker.proofs.entry.walk.Goals as goal

pub returns-in-Err : goal.returns-in-Err
returns-in-Err c = c.refuse.ensures ∙ sym ((demand1 _).walk_refused _ _ _ _ _ _ _ (sym c.in-Err.ensures.found))
