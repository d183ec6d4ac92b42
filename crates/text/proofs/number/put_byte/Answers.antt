-- `put_byte`: one store.
use Rattle.text.proofs.Append.{one}
use Rattle.text.proofs.number.put_byte.Goals as goal

pub returns : goal.returns
returns c = one c.args.out.now c.args.at c.args.byte c.requires
