-- A table that passes the test holds the entries.
use borrow.Author.Rules.{rules}
use Rattle.shelf.proofs.Entries.{entries_are}
use Rattle.shelf.proofs.entry.entry_in.Goals as goal

pub returns : goal.returns
returns c = entries_are c.args.table.now c.requires.obeys c.args.kinds c.args.tokens (search rules) (search rules)
