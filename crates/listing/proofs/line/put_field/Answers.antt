-- `put_field`: the line, after its label and number.
use native.Mathlib.Omega.{arith}
use lib.ListN.{length}
use Rattle.model.specs.Page.{bytes}
use Rattle.text.proofs.Append.{reads_as}
use Rattle.listing.specs.Lengths.{most_field_line}
use Rattle.listing.specs.Line.{field_text}
use Rattle.listing.proofs.Lines.{field_is}
use Rattle.listing.proofs.line.put_field.Goals as goal

pub returns : goal.returns
unfolding bytes
returns c =
    let args = c.args in
    reads_as (most_field_line (length args.form.now)) (field_text args.field args.form.now) c.put_labelled_counts.ensures (omega arith) (field_is args.field args.form.now)
