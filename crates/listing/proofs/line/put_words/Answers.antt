-- `put_words`: the word for a kind that is out, or the norm, the mark and what is shown of the row, one after the other.
use native.Mathlib.Omega.{arith}
use lib.ListN.{length}
use Rattle.model.specs.Page.{bytes}
use Rattle.listing.specs.Lengths.{most_words}
use Rattle.listing.specs.Line.{words_text}
use Rattle.text.proofs.Append.{then, reads_as}
use Rattle.listing.proofs.Lines.{out_is, words_is}
use Rattle.listing.proofs.line.put_words.Goals as goal

pub returns-then-norm-eq0 : goal.returns-then-norm-eq0
unfolding bytes
returns-then-norm-eq0 c =
    let args = c.args in
    reads_as (most_words (length args.row.now)) (words_text args.kind args.norm args.since args.row.now) c.put_bytes.ensures (omega arith)
    (out_is args.kind args.norm args.since args.row.now c.if-norm-eq0.true)

pub returns : goal.returns
unfolding bytes
returns c =
    let args = c.args in
    let put-two-labelled = c.put_two_labelled-space in
    let put_byte = c.put_byte-shown in
    reads_as (most_words (length args.row.now)) (words_text args.kind args.norm args.since args.row.now) (then put-two-labelled.ensures (then put_byte.ensures c.put_prime_or_row.ensures))
    (omega arith) (words_is args.kind args.norm args.since args.row.now c.if-norm-eq0.false)
