use mathlib.Core.Path.{ap}
use Rattle.tables.specs.Table.{row_in}
use Rattle.tables.specs.Lines.{kind_in, code_in}
use Rattle.tables.specs.Match.{LineEffects}
use Rattle.tables.proofs.Matching.{match_equivalence, numbered_tells}
use Rattle.tables.proofs.effects.Effects.classes.Goals as goal

pub returns-clause-tells_match : goal.returns-clause-tells_match
returns-clause-tells_match c =
    let self = c.args.self.now in
    let same = match_equivalence (kind_in self.lines) (code_in self.lines) (row_in self.rows) (row_in self.forms) in
    numbered_tells c.loop-line.invariant same (rw (ap (λ (e : LineEffects). e.lines) c.self.view_is) at c.loop-line-test.false)
