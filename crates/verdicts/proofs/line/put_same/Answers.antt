-- `put_same`: the bytes are the word.
use native.Mathlib.Omega.{arith}
use Rattle.model.specs.Answer.{given, same}
use Rattle.model.specs.Page.{bytes, word_of}
use Rattle.text.proofs.Append.{reads_as}
use Rattle.verdicts.proofs.Pairs.{same_is}
use Rattle.verdicts.proofs.line.put_same.Goals as goal

pub returns : goal.returns
unfolding bytes
returns c = reads_as 5 (word_of (given same)) c.put_bytes.ensures (omega arith) same_is
