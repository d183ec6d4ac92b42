-- `put_digits`, which calls itself: the number falls.
use Rattle.std.proofs.Common.{arith}
use Rattle.text.proofs.Decimal.{length_some, length_more, digit_only, digit_last}
use Rattle.text.proofs.number.+put_digits.Goals as goal

pub put_byte-requires : goal.put_byte-requires
put_byte-requires t c = omega (arith, c.requires, length_some c.args.value)

pub put_digits-next-requires : goal.put_digits-next-requires
put_digits-next-requires t c = (omega arith, omega (arith, c.requires, length_more c.args.value (omega arith)))

pub put_byte-requires-else-value-lt10 : goal.put_byte-requires-else-value-lt10
put_byte-requires-else-value-lt10 t c = omega (arith, c.requires, length_more c.args.value (omega arith))

pub returns-then-value-lt10 : goal.returns-then-value-lt10
returns-then-value-lt10 t c = digit_only c.digit.ensures c.if-value-lt10.true c.put_byte.ensures

pub returns-else-value-lt10 : goal.returns-else-value-lt10
returns-else-value-lt10 t c = digit_last c.digit-else-value-lt10.ensures c.if-value-lt10.false c.put_digits-next.ensures c.put_byte-else-value-lt10.ensures
