-- The settlement tells what each return answers, and what is written.
use borrow.Author.Rules.{rules}
use native.Mathlib.Omega.{arith}
use mathlib.Core.Path.{◌≡◌, sym}
use Prim.Native.Nat.{◌≤◌}
use lib.ListN.{length}
use lib.Seq.{length-take-le}
use Rattle.sheet.proofs.Laws.{kinds_most}
use Rattle.filer.proofs.Settlements.{form_no_field, form_short, form_writes, copied}
use Rattle.filer.proofs.form.form_accepted.Goals as goal
use Rattle.filer.proofs.form.form_accepted.Goals.{After-prime_counts-form}

-- The form has a count for each kind of the card.
long : (c : After-prime_counts-form) → c.args.settlement.now.card.kinds ≤ length c.prime_counts-form.result
long c =
    let e : length c.prime_counts-form.result ≡ 32 = search rules in
    omega (arith, kinds_most c.requires.1.accepts.reads)

pub returns-then-fields-field : goal.returns-then-fields-field
returns-then-fields-field c = λ sense X. form_no_field X _ _ c.if-fields-field.true

pub returns-then-buffer-n : goal.returns-then-buffer-n
returns-then-buffer-n c = λ sense X. form_short X _ _ c.if-fields-field.false c.if-buffer-n.true

pub prime_counts-form-requires : goal.prime_counts-form-requires
prime_counts-form-requires c =
    let X = c.requires.1 in
    record { reads = (X.accepts.reads, X.accepts.accepted); base_at = (c.requires.0, X.settled_is.base_is); field_lt_fields = c.if-fields-field.false }

pub slice_bounds-form-end : goal.slice_bounds-form-end
slice_bounds-form-end c = long (goal.at.slice_bounds-form-end c).After-prime_counts-form

pub slice_bounds-write-end : goal.slice_bounds-write-end
slice_bounds-write-end c = sym (length-take-le _ _ (long (goal.at.slice_bounds-write-end c).After-prime_counts-form))

pub write-requires : goal.write-requires
write-requires c =
    omega (arith, length-take-le c.args.settlement.now.card.kinds c.prime_counts-form.result (long (goal.at.write-requires c).After-prime_counts-form), c.if-buffer-n.false)

pub returns : goal.returns
returns c = λ sense X. form_writes X _ _ c.if-fields-field.false _ _ c.if-buffer-n.false (c.prime_counts-form.ensures sense X.settled_is.base_is) (copied _ _ _ c.write.ensures)
