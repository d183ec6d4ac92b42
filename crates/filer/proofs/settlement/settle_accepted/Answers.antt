-- What the settle loop gives of an accepted sheet.
use Rattle.filer.proofs.settlement.settle_accepted.Goals as goal

pub returns : goal.returns
returns c = record { accepts = c.requires; settled_is = c.settle_reached.ensures }
