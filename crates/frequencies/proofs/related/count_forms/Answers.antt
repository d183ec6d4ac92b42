use borrow.Author.Rules.{rules}
use mathlib.Core.Path.{◌≡◌, refl, ◌∙◌}
use Prim.Native.Nat.{◌<◌, ◌+◌, ◌-◌}
use native.Mathlib.Omega.{arith}
use Rattle.frequencies.proofs.Counted.{counted_last, counted_before, count_is_related, rows_fit, form_fits, rows_before}
use Rattle.frequencies.proofs.related.count_forms.Goals as goal

pub count_fields-related-requires : goal.count_fields-related-requires
count_fields-related-requires c = record { in_order = c.requires.by_index.2.in_order; size_le_most_tokens = c.requires.le_stage.2; rows_len = (search rules, search rules) }

pub loop-t-init : goal.loop-t-init
loop-t-init c =
    (c.requires.le_stage.0, omega arith, search rules, search rules, refl, λ s i R. (R, counted_last _ c.requires.le_stage.1 (c.count_fields-related.ensures ∙ count_is_related _ c.requires.le_stage.0 R _)))

pub lower_rows-requires : goal.lower_rows-requires
lower_rows-requires c =
    let loop = c.loop-t in
    let given = c.requires.by_index in
    let rows = (loop.invariant.5 given.0 given.1 given.2).0 in
    let z : loop.t - 1 + 1 ≡ loop.t = omega arith in
    record { in_order = rows.in_order; rows_len = (loop.invariant.2, search rules, search rules); by_index = rw z (rows_fit loop.t (omega arith) rows) }

pub form_before-given-requires : goal.form_before-given-requires
form_before-given-requires c =
    let loop = c.loop-t in
    let given = c.requires.by_index in
    let z : loop.t - 1 + 1 ≡ loop.t = omega arith in
    record { form_len = (loop.invariant.3, search rules, search rules); by_index = rw z (form_fits loop.t (omega arith) (loop.invariant.5 given.0 given.1 given.2).0) }

pub count_fields-requires : goal.count_fields-requires
count_fields-requires c = record { in_order = c.requires.by_index.2.in_order; size_le_most_tokens = c.requires.le_stage.2; rows_len = (search rules, search rules) }

pub loop-t-preserved : goal.loop-t-preserved
loop-t-preserved c =
    let loop = c.loop-t in
    let here : 1 < loop.t = omega arith in
    let z : loop.t - 1 + 1 ≡ loop.t = omega arith in
    let table = c.lower_rows in
    let form = c.form_before-given in (
      omega arith,
      omega (arith, loop.invariant.1),
      search rules,
      search rules,
      search rules,
      λ s i R.
          let at_stage = loop.invariant.5 s i R in
          let lowered = rows_before loop.t here at_stage.0 table.new.rows form.result (rw z at table.ensures) (rw z at form.ensures) in
          (lowered, counted_before here loop.invariant.1 loop.invariant.4 c.requires.le_stage.1 at_stage.1 (c.count_fields.ensures ∙ count_is_related _ (omega arith) lowered _)),
    )

pub returns : goal.returns
returns c =
    let loop = c.loop-t in
    let one : loop.t ≡ 1 = omega (arith, loop.invariant.0) in
    record { by_index_2 = λ s i R q h l. (loop.invariant.5 s i R).1.from q (omega arith) l; by_index_3 = λ s i R q h l. (loop.invariant.5 s i R).1.past q h l }
