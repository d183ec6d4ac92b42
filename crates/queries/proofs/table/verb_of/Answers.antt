-- `verb_of`: the code's calls are those of the table, name by name and verb by verb, by computation.
use mathlib.Core.Path.{refl, sym, ap, ◌∙◌}
use Rattle.model.specs.Page.{bytes}
use Rattle.queries.specs.Verb.{verbs}
use Rattle.queries.proofs.Words.{verb_found, verb_of_calls}
use Rattle.queries.proofs.table.verb_of.Goals as goal

pub returns-in_err-call : goal.returns-in_err-call
unfolding verbs bytes
returns-in_err-call c = c.from_residual.ensures ∙ ap verb_found (sym c.in_err-call.was) ∙ verb_of_calls c.args.word.now _ c.call_in.ensures (record { names = refl; verbs = refl })

pub returns : goal.returns
unfolding verbs bytes
returns c = ap verb_found (sym c.in_ok-call.was) ∙ verb_of_calls c.args.word.now _ c.call_in.ensures (record { names = refl; verbs = refl })
