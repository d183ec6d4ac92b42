-- `Call::is_named`: the two words are equal, byte by byte.
use mathlib.Core.Path.{◌∙◌}
use Rattle.queries.proofs.Words.{same_words}
use Rattle.queries.proofs.table.Call.is_named.Goals as goal

pub returns : goal.returns
returns c = c.eq.ensures ∙ same_words c.args.word.now c.args.self.now.name.now
