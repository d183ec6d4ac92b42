-- The invariant: what the bytes passed come to, and that what is left decides as the whole word does.
use Rattle.words.proofs.Decimals.{Reading}
use Rattle.words.proofs.decimal.number.Given as goal

abbrev pub invariant-loop-byte : goal.invariant-loop-byte
invariant-loop-byte l = Reading l.most l.word l.value l.byte-index
