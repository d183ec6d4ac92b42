use Rattle.tables.specs.Lines.{kind_in}
use borrow.Author.Rules.{rules}
use Rattle.tables.proofs.lines.kind_of.Goals as goal

pub returns : goal.returns
unfolding kind_in
returns c = search rules
