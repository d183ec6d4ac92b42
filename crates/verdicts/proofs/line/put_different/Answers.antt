-- `put_different`: its parts, one after the other, are the word.
use native.Mathlib.Omega.{arith}
use Rattle.model.specs.Answer.{given, different}
use Rattle.model.specs.Page.{bytes, word_of}
use Rattle.text.proofs.Append.{then, reads_as}
use Rattle.verdicts.proofs.Pairs.{different_is}
use Rattle.verdicts.proofs.line.put_different.Goals as goal

pub returns : goal.returns
unfolding bytes
returns c =
    let put-two-labelled = c.put_two_labelled-last in
    reads_as 52 (word_of (given (different c.args.stage c.args.rounds))) (then put-two-labelled.ensures c.put_byte.ensures) (omega arith)
    (different_is c.args.stage c.args.rounds)
