-- Lines of one code match just when their effects are the same.
use mathlib.Core.Path.{sym, ◌∙◌, ap}
use Rattle.tables.specs.Table.{row_part}
use Rattle.tables.proofs.Matching.{parts_fit, parts_tell}
use Rattle.tables.proofs.effects.Effects.matches.Goals as goal

pub same_effect-requires : goal.same_effect-requires
same_effect-requires c =
    let rows = c.self.inside.rows.now in
    let bound = rw (← c.self.view_is) at c.requires.line_bound in
    let its = c.row_of-2.ensures ∙ ap (row_part rows) c.kind_of-its.ensures in
    let own = c.row_of-4.ensures ∙ ap (row_part rows) c.kind_of-kind.ensures in
    let fit = parts_fit c.self.invariant c.args.line c.args.other bound.0 bound.1 c.row_of.ensures its c.row_of-3.ensures own in
    record { its_len = fit.0; under = fit.1 }

pub returns : goal.returns
returns c =
    let rows = c.self.inside.rows.now in
    let bound = rw (← c.self.view_is) at c.requires.line_bound in
    let its = c.row_of-2.ensures ∙ ap (row_part rows) c.kind_of-its.ensures in
    let own = c.row_of-4.ensures ∙ ap (row_part rows) c.kind_of-kind.ensures in
    let codes = sym c.code_of.ensures ∙ c.if-code_of.false ∙ c.code_of-2.ensures in
    rw (← c.self.view_is)
    (parts_tell c.self.invariant c.args.line c.args.other bound.0 bound.1 codes c.row_of.ensures its c.row_of-3.ensures own c.same_effect.ensures)
