-- The own count, where it stands in the table.
use Rattle.tables.proofs.Products.{own_one}
use Rattle.tables.proofs.table.is_atom.Goals as goal

pub returns : goal.returns
returns c = own_one c.args.rows.now c.args.kind c.requires.0
