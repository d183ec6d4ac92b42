use native.Mathlib.Omega.{arith}
use Prim.Native.Nat.{◌≤◌, ◌<◌}
use borrow.Author.Count.{below_more}
use mathlib.Core.Path.{sym, ◌∙◌}
use Rattle.model.specs.Sheet.{kind_count, field_count}
use Rattle.tally.proofs.Judging.{alike_all, unlike_one, none_unlike}
use Rattle.tally.proofs.tally.look_unlike.Goals as goal
use Rattle.tally.proofs.tally.look_unlike.Goals.{Else-fields-first, Else-fields-second, Else-kinds-gt32}

-- The kinds are no more than the player has counts for.
few_kinds : (c : Else-kinds-gt32) → kind_count c.args.sheet.now ≤ 32
few_kinds c = omega (arith, c.kinds.ensures, c.if-kinds-gt32.false)

-- The first number is a field's.
first_field : (c : Else-fields-first) → c.args.first < field_count c.args.sheet.now
first_field c = omega (arith, c.fields.ensures, c.if-fields-first.false)

-- The second number is a field's.
second_field : (c : Else-fields-second) → c.args.second < field_count c.args.sheet.now
second_field c = omega (arith, c.fields-2.ensures, c.if-fields-second.false)

pub returns-then-kinds-gt32 : goal.returns-then-kinds-gt32
returns-then-kinds-gt32 c =
    let a = c.args in
    none_unlike a.sheet.now a.first a.second (λ h f g. omega (arith, c.kinds.ensures, c.if-kinds-gt32.true))

pub returns-then-fields-first : goal.returns-then-fields-first
returns-then-fields-first c =
    let a = c.args in
    none_unlike a.sheet.now a.first a.second (λ h f g. omega (arith, c.fields.ensures, c.if-fields-first.true))

pub returns-then-fields-second : goal.returns-then-fields-second
returns-then-fields-second c =
    let a = c.args in
    none_unlike a.sheet.now a.first a.second (λ h f g. omega (arith, c.fields-2.ensures, c.if-fields-second.true))

pub loop-kind-init : goal.loop-kind-init
loop-kind-init c = λ k l. absurd (omega arith)

pub returns-then-field_count : goal.returns-then-field_count
returns-then-field_count c =
    unlike_one _ _ _ (few_kinds (goal.at.returns-then-field_count c).Else-kinds-gt32) (first_field (goal.at.returns-then-field_count c).Else-fields-first) (second_field (goal.at.returns-then-field_count c).Else-fields-second) c.loop-kind.kind c.field_count.ensures.0 c.field_count-in-loop-kind.ensures.0 c.if-field_count.true

pub loop-kind-preserved : goal.loop-kind-preserved
loop-kind-preserved c =
    below_more _ _ c.loop-kind.invariant (sym c.field_count.ensures.0 ∙ c.if-field_count.false ∙ c.field_count-in-loop-kind.ensures.0)

pub returns : goal.returns
returns c = alike_all _ _ _ c.loop-kind.kind (omega (arith, c.kinds-kind-end.ensures, c.loop-kind-test.false)) c.loop-kind.invariant
