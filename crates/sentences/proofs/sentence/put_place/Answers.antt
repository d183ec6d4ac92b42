-- `put_place`: by the places.
use mathlib.Core.Path.{sym, ap}
use native.Mathlib.Omega.{arith}
use Rattle.model.specs.Page.{bytes}
use Rattle.text.proofs.Append.{nothing, then, reads_as}
use Rattle.sentences.specs.declared.table.Place.{Place}
use Rattle.sentences.specs.Sentence.{named}
use Rattle.sentences.proofs.sentence.put_place.Goals as goal

pub returns-in-Only : goal.returns-in-Only
unfolding named
returns-in-Only c =
    let args = c.args in
    reads_as 27 (named args.places args.place) (nothing args.out.now args.at) (omega arith) (sym (ap (λ (q : Place). named q args.place) c.in-Only.is))

pub returns-in-Line : goal.returns-in-Line
unfolding named bytes
returns-in-Line c =
    let args = c.args in
    let put-labelled = c.put_labelled-next in
    reads_as 27 (named args.places args.place) (then put-labelled.ensures c.put_bytes.ensures) (omega arith) (sym (ap (λ (q : Place). named q args.place) c.in-Line.is))

pub returns-in-Kind : goal.returns-in-Kind
unfolding named bytes
returns-in-Kind c =
    let args = c.args in
    let put-labelled2 = c.put_labelled-next-in-Kind in
    reads_as 27 (named args.places args.place) (then put-labelled2.ensures c.put_bytes-in-Kind.ensures) (omega arith) (sym (ap (λ (q : Place). named q args.place) c.in-Kind.is))
