use Rattle.tables.specs.Lines.{code_in}
use borrow.Author.Rules.{rules}
use Rattle.tables.proofs.lines.code_of.Goals as goal

pub returns : goal.returns
unfolding code_in
returns c = search rules
