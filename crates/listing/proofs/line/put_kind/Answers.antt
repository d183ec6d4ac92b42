-- `put_kind`: its parts, one after the other, are the line.
use native.Mathlib.Omega.{arith}
use lib.ListN.{length}
use Rattle.model.specs.Page.{bytes}
use Rattle.listing.specs.Lengths.{most_kind_line}
use Rattle.listing.specs.Line.{kind_text}
use Rattle.text.proofs.Append.{then, reads_as}
use Rattle.listing.proofs.Lines.{kind_is}
use Rattle.listing.proofs.line.put_kind.Goals as goal

pub returns : goal.returns
unfolding bytes
returns c =
    let args = c.args in
    let put-labelled = c.put_labelled-words in
    let put-words = c.put_words-last in
    reads_as (most_kind_line (length args.row.now)) (kind_text args.kind args.norm args.since args.row.now) (then put-labelled.ensures (then put-words.ensures c.put_byte.ensures))
    (omega arith) (kind_is args.kind args.norm args.since args.row.now)
