-- The rows are the norms, and the counts are the norm of the field.
use mathlib.Core.Path.{◌∙◌}
use native.Mathlib.Omega.{arith}
use Rattle.sheet.proofs.Laws.{kinds_most}
use Rattle.stages.proofs.Fields.{read_fits, read_norm}
use Rattle.frequencies.proofs.Counted.{count_is_norms}
use Rattle.frequencies.proofs.related.count_norms.Goals as goal

pub field_norm-requires : goal.field_norm-requires
field_norm-requires c = record { kinds_le_most_kinds = kinds_most c.requires.accepts.reads; field_bound = read_fits c.requires.accepts.reads c.args.field _ c.field.ensures c.requires.accepts (λ k. omega (arith, c.type_inv.sheet k)) }

pub returns : goal.returns
returns c =
    c.count_fields.ensures ∙ count_is_norms c.requires.accepts _ c.norm_rows-rows.ensures c.args.field c.args.size _
    (c.field_norm.ensures ∙ read_norm c.requires.accepts.reads c.args.field _ c.field.ensures c.requires.accepts) c.requires.kinds_value.0
