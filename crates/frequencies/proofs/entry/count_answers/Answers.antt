-- The counts of the places are the frequencies.
use mathlib.Core.List.{List}
use mathlib.Core.Path.{◌∙◌, ap}
use Prim.Native.Nat.{ℕ, ◌+◌}
use native.Mathlib.Omega.{arith}
use Rattle.model.specs.Finite.{list_from}
use Rattle.model.specs.Answer.{written}
use Rattle.stages.proofs.Unsettled.{few_kinds}
use Rattle.frequencies.specs.Related.{placed}
use Rattle.sheet.proofs.Laws.{kinds_are, kinds_most}
use Rattle.frequencies.proofs.Counted.{entry_for, related_falls, places_are}
use Rattle.frequencies.proofs.entry.count_answers.Goals as goal

pub write_places-requires : goal.write_places-requires
write_places-requires c =
    let A = c.requires.accepts in
    let all = c.entry_of-all.ensures ∙ entry_for c.args.sheet.now c.args.kinds.now c.args.size c.requires.kinds_value.0 in record { all_le_most_listed = (omega (arith, all, c.requires.size_bound), kinds_most A.reads, omega (arith, kinds_are A.reads, c.requires.sheet_in_bounds)); by_index = λ q h. related_falls c.args.sheet.now A.accepted c.args.field c.args.size _ (few_kinds A.reads) c.related_fields-related.ensures _ all q (omega (arith, kinds_are A.reads)) }

pub returns : goal.returns
returns c =
    let A = c.requires.accepts in
    let all = c.entry_of-all.ensures ∙ entry_for c.args.sheet.now c.args.kinds.now c.args.size c.requires.kinds_value.0 in
    let related = c.related_fields-related in
    c.write_places.ensures
    ∙ ap (λ (xs : List ℕ). written xs c.args.buffer.now)
    (ap (λ (n : ℕ). list_from (placed c.entry_of-all.result related.result n) 0 (n + 2)) (kinds_are A.reads)
    ∙ places_are c.args.sheet.now A.accepted c.args.field c.args.size related.result (few_kinds A.reads) related.ensures _ all)
