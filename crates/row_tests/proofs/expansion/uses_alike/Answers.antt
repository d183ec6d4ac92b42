-- The marks of the kind and of the field are the same just when the two may use lines of the same classes.
use mathlib.Core.Bool.{true}
use mathlib.Core.Logic.{◌↔◌}
use mathlib.Core.Path.{◌≡◌}
use lib.ListN.{length}
use Rattle.model.specs.Field.{at}
use Rattle.tables.proofs.Tables.{marks_equal}
use Rattle.tables.proofs.Marking.{uses_tell}
use borrow.Author.Rules.{rules}
use Rattle.row_tests.proofs.expansion.uses_alike.Goals as goal

pub returns : goal.returns
returns c =
    let other = c.marks_of_field-other in
    let long : length other.result ≡ 256 = search (rules, other.type_inv) in
    let told : (c.eq.result ≡ true) ↔ (c.marks_of_kind.result.now ≡ other.result) = marks_equal _ _ _ (rw c.as_slice.ensures at c.eq.ensures) in
    λ lines classes K. uses_tell (at c.args.field.now) c.args.kind c.requires.1 K c.marks_of_kind.ensures long (other.ensures lines classes K) told
