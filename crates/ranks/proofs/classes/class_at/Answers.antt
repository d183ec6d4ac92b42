-- The line comes before all entries, or matches the entry before its place, or matches none.
use mathlib.Core.Path.{refl}
use Prim.Native.Nat.{◌-◌}
use native.Mathlib.Omega.{arith}
use Rattle.ranks.proofs.Laws.{line_order}
use Rattle.ranks.proofs.Classing.{class_first, class_entry, class_between, firsts_lines}
use Rattle.ranks.proofs.classes.class_at.Goals as goal

pub returns-then-place-eq0 : goal.returns-then-place-eq0
returns-then-place-eq0 c =
    let a = c.args in
    class_first (line_order a.effects.now) c.requires.firsts c.requires.place c.if-place-eq0.true

pub matches-requires : goal.matches-requires
matches-requires c =
    let within = c.requires.place.within in
    record { line_bound = (rw c.from-other.ensures (firsts_lines c.requires.firsts c.requires.line_bound _ (c.args.place - 1, omega (arith, within, c.if-place-eq0.false), refl)), c.requires.line_bound) }

pub returns-then-matches : goal.returns-then-matches
returns-then-matches c =
    let a = c.args in
    let within = c.requires.place.within in
    rw (← c.from-other.ensures) at (class_entry (line_order a.effects.now) c.requires.firsts c.requires.place (a.place - 1) (omega (arith, within, c.if-place-eq0.false)) (rw c.from-other.ensures at c.matches.ensures) c.if-matches.true)

pub returns : goal.returns
returns c =
    let a = c.args in
    class_between (line_order a.effects.now) c.requires.firsts c.requires.place (omega (arith, c.if-place-eq0.false)) (rw c.from-other.ensures at c.matches.ensures) c.if-matches.false
