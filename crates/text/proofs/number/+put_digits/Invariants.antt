-- `put_digits` calls itself: the number falls.
use Rattle.text.proofs.number.+put_digits.Given as goal

abbrev pub decreases-put_digits : goal.decreases-put_digits
decreases-put_digits l = l.value
