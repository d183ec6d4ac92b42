-- By the rows of the settled stage and what is kept.
use borrow.Author.Rules.{rules}
use mathlib.Core.List.{List}
use mathlib.Core.Path.{◌≡◌, sym, ◌∙◌}
use Prim.Native.Nat.{ℕ}
use native.Mathlib.Omega.{arith}
use lib.ListN.{length, take}
use lib.Seq.{take_all}
use Rattle.model.specs.Sense.{plain}
use Rattle.theory.specs.Widths.{Bytes}
use Rattle.theory.proofs.Settling.{sheet_settles}
use Rattle.stages.proofs.Outcomes.{settled_fit}
use Rattle.stages.proofs.Settled.{settled_most}
use Rattle.stages.proofs.Unsettled.{few_kinds}
use Rattle.frequencies.proofs.Counted.{rows_settled, related_later}
use Rattle.frequencies.proofs.related.count_settled.Goals as goal

-- All of an array that holds as many counts as were widened is those.
widened : (rows table : List ℕ) → length rows ≡ 1024 → length table ≡ 1024 → take (length rows) table ≡ rows → table ≡ rows
widened rows table h l e = sym (take_all (length rows) table (omega arith)) ∙ e

pub field_form-form-requires : goal.field_form-form-requires
field_form-form-requires c =
    let bytes : Bytes c.args.sheet.now = λ k. omega (arith, c.type_inv.sheet k) in
    record { reads = c.requires.reads.0; field_lt_fields = c.requires.field_lt_fields.0; rows_len = (search rules, settled_fit plain c.args.sheet.now c.requires.reads.1 c.args.settled.now.base.rows c.requires.settled.base_is bytes) }

pub count_forms-requires : goal.count_forms-requires
count_forms-requires c =
    let rows_wide : c.widen-table.result ≡ c.args.settled.now.base.rows = widened _ _ (search rules) (search rules) c.widen-table.ensures in
    let sheet = c.args.sheet.now in
    let ok = c.requires.reads.1 in
    let S = c.requires.settled in
    let few = few_kinds c.requires.reads.0 in
    let bytes : Bytes sheet = λ k. omega (arith, c.type_inv.sheet k) in record { le_stage = (omega (arith, S.stage_is, (sheet_settles plain sheet ok).from), omega (arith, S.stage_is, settled_most plain sheet ok), c.requires.field_lt_fields.1); by_index = (sheet, c.args.field, rows_settled sheet ok c.args.settled.now S c.args.field bytes few c.requires.kinds_value.0 c.requires.kinds_value.1 _ _ rows_wide c.field_form-form.ensures) }

pub returns : goal.returns
returns c =
    let rows_wide : c.widen-table.result ≡ c.args.settled.now.base.rows = widened _ _ (search rules) (search rules) c.widen-table.ensures in
    let sheet = c.args.sheet.now in
    let ok = c.requires.reads.1 in
    let S = c.requires.settled in
    let bytes : Bytes sheet = λ k. omega (arith, c.type_inv.sheet k) in
    let rows = rows_settled sheet ok c.args.settled.now S c.args.field bytes (few_kinds c.requires.reads.0) c.requires.kinds_value.0 c.requires.kinds_value.1 _ _ rows_wide c.field_form-form.ensures in
    related_later sheet ok c.args.settled.now S c.args.field c.args.size c.count_forms.result (c.count_forms.ensures.by_index_2 sheet c.args.field rows) (c.count_forms.ensures.by_index_3 sheet c.args.field rows)
