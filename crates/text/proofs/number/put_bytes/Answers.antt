-- `put_bytes`: the text in the place of as many bytes.
use native.Mathlib.Omega.{arith}
use Rattle.text.proofs.Append.{stored}
use Rattle.text.proofs.number.put_bytes.Goals as goal

pub returns : goal.returns
returns c = stored c.args.out.now c.args.text.now _ c.args.at _ c.requires (omega arith) c.copy_from_slice.ensures.after
