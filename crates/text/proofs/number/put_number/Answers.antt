-- `put_number`: the digits of 64 bits are room enough.
use mathlib.Core.Path.{refl}
use native.Mathlib.Omega.{arith}
use Rattle.model.specs.Page.{number}
use Rattle.text.specs.Lengths.{most_digits}
use Rattle.text.proofs.Append.{reads_as}
use Rattle.text.proofs.Decimal.{number_most}
use Rattle.text.proofs.number.put_number.Goals as goal

pub put_digits-requires : goal.put_digits-requires
put_digits-requires c = omega (arith, number_most c.args.value c.ranges.value.fits)

pub returns : goal.returns
returns c =
    reads_as most_digits (number c.args.value) c.put_digits.ensures (number_most c.args.value c.ranges.value.fits) refl
