-- The line has a class already, and the list stays; or it begins one, and is put to its place.
use Prim.Native.Nat.{◌<◌}
use native.Mathlib.Omega.{arith}
use lib.ListN.{length}
use Rattle.tables.specs.Match.{MatchBy}
use Rattle.ranks.proofs.Laws.{line_order}
use Rattle.ranks.proofs.Classing.{firsts_lines, firsts_same, own_class, firsts_more}
use Rattle.ranks.proofs.classes.join.Goals as goal

pub place_of-place-requires : goal.place_of-place-requires
place_of-place-requires c =
    let line = c.requires.line_bound.0 in
    let firsts = c.requires.firsts in
    record { lines_of = firsts_lines firsts line; in_order = firsts.in_order; line_bound = line }

pub returns-then-class-line : goal.returns-then-class-line
returns-then-class-line c =
    let a = c.args in
    record { least_match = c.class_at-class.ensures; count_bound = omega (arith, c.requires.line_bound.2); firsts_with_it = firsts_same (line_order a.effects.now) c.requires.firsts c.class_at-class.ensures c.if-class-line.true }

pub returns : goal.returns
returns c =
    let a = c.args in
    let order = line_order a.effects.now in
    let own = own_class (MatchBy a.effects.now) c.class_at-class.ensures c.if-class-line.false in
    let room : a.count < length a.list.now = omega (arith, c.requires.line_bound.0, c.requires.line_bound.1, c.requires.line_bound.2) in
    record { least_match = own; count_bound = omega (arith, c.requires.line_bound.2); firsts_with_it = firsts_more order room c.requires.firsts c.place_of-place.ensures c.insert.ensures own }
