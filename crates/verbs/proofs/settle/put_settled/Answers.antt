-- `put_settled`: the stage, and then the rows.
use mathlib.Core.List.{◌++◌}
use mathlib.Core.Path.{ap}
use native.Mathlib.Omega.{arith}
use Rattle.model.specs.Answer.{given}
use Rattle.sheet.specs.declared.reader.Card.{Card}
use Rattle.text.proofs.Append.{then}
use Rattle.replies.specs.Told.{told}
use Rattle.verbs.specs.Texts.{stages_line, row_lines}
use Rattle.replies.proofs.Replies.{tells_answer, told_as}
use Rattle.verbs.proofs.settle.put_settled.Goals as goal

pub put_rows-length-requires : goal.put_rows-length-requires
put_rows-length-requires c =
    let of-header = c.of_header-card in
    omega (arith, c.put_stages-at_rows.ensures.ends, c.put_stages-at_rows.ensures.size, c.put_stages-at_rows.ensures.within, c.requires.most_text_in_bounds, c.requires.sheet_bound, ap (λ (x : Card). x.kinds) of-header.ensures)

pub returns : goal.returns
returns c =
    let of-header = c.of_header-card in
    let put-stages = c.put_stages-at_rows in
    told_as _ (tells_answer (then put-stages.ensures c.put_rows-length.ensures) _ c.answered.ensures)
    (ap (λ (x : Card). told (given (stages_line c.args.stage ++ row_lines x.kinds c.args.table.now))) of-header.ensures)
