-- `Row::is_of`: by the number, then by the places.
use mathlib.Core.Logic.{⊎_elim}
use mathlib.Core.Path.{ap}
use borrow.Author.Tests.{ne_eqb}
use Rattle.sentences.specs.declared.table.Place.{Place}
use Rattle.sentences.specs.Sentence.{among, has}
use Rattle.sentences.proofs.Rows.{by_places}
use Rattle.sentences.proofs.table.Row.is_of.Goals as goal

pub returns-in-Only : goal.returns-in-Only
unfolding among has
returns-in-Only c = by_places c.if-self-number.true (ap (λ (q : Place). among q c.args.place) c.in-Only.is)

pub returns-in-Line : goal.returns-in-Line
unfolding among has
returns-in-Line c = by_places c.if-self-number.true (⊎_elim (ap (λ (q : Place). among q c.args.place)) (ap (λ (q : Place). among q c.args.place)) c.in-Line.is)

pub returns-else-self-number : goal.returns-else-self-number
unfolding has
returns-else-self-number c = simp (ne_eqb _ _ c.if-self-number.false)
