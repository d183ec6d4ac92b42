-- The field of the number, and its first counts, stored.
use borrow.Author.Rules.{rules}
use mathlib.Core.List.{List}
use mathlib.Core.Path.{◌≡◌, ◌∙◌, ap}
use Prim.Native.Nat.{ℕ}
use native.Mathlib.Omega.{arith}
use lib.ListN.{length}
use Rattle.model.specs.Answer.{written}
use Rattle.numbering.proofs.Listed.{first_long}
use Rattle.numbering.proofs.Calls.{counts_by, copied}
use Rattle.numbering.proofs.field.write_field.Goals as goal

pub field_of-field-requires : goal.field_of-field-requires
field_of-field-requires c = record { in_order = c.requires.in_order; size_le_most_tokens = c.requires.counts_le_most_kinds.1; number_bound = omega (arith, c.requires.number_bound) }

pub slice_bounds-write-end : goal.slice_bounds-write-end
slice_bounds-write-end c =
    first_long c.field_of-field.result c.args.counts c.requires.counts_le_most_kinds.0 (search rules)

pub write-requires : goal.write-requires
write-requires c =
    omega (arith, first_long c.field_of-field.result c.args.counts c.requires.counts_le_most_kinds.0 (search rules), c.requires.counts_in_bounds)

pub returns : goal.returns
returns c =
    let found = c.field_of-field in
    let long : length found.result ≡ 32 = search rules in
    copied _ _ _ c.write.ensures
    ∙ ap (λ (xs : List ℕ). written xs c.args.buffer.now) (counts_by c.args.counts c.args.size c.args.number c.args.kinds.now found.result (omega (arith, c.requires.counts_le_most_kinds.0)) found.ensures)
