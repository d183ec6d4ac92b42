-- The table of forms begins with zeros.
use Rattle.std.proofs.Common.{arith, refl}
use Rattle.tables.proofs.Tables.{zero_under}
use Rattle.stages.proofs.settle.settle.Goals as goal

pub settle_lines-requires-clause-form_table : goal.settle_lines-requires-clause-form_table
settle_lines-requires-clause-form_table c = record { long = refl; small = zero_under 8192 (omega arith) }
