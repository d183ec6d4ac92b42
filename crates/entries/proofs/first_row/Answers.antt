-- `first_row`: the entries for 0 kinds, computed.
use mathlib.Core.Path.{refl}
use Rattle.model.specs.Finite.{list_from}
use Rattle.model.specs.Shelf.{entry}
use Rattle.entries.specs.Table.{entries_of}
use Rattle.entries.proofs.first_row.Goals as goal

pub returns : goal.returns
unfolding entries_of list_from entry
returns c = refl
