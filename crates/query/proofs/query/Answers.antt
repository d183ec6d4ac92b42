-- `query`: the call of what was read is that of the input's first bytes.
use Rattle.model.specs.Limits.{most_input}
use Rattle.queries.specs.Query.{query_of}
use Rattle.query.proofs.Printed.{read_text}
use Rattle.query.proofs.query.Goals as goal

pub returns : goal.returns
returns g c =
    let read = c.in-Ok.ensures in
    read_text c.answer.result (λ s. (query_of s c.args.words.now).text) most_input _ _ c.read_sheet.new.sheet c.in-Ok.bytes _ _ read.given read.lies.0 c.read_sheet.array_long read.whole c.answer.ensures
