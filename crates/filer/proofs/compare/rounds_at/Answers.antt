-- The norms of the two fields and g give the rounds.
use native.Mathlib.Omega.{arith}
use mathlib.Core.Path.{◌≡◌, ◌∙◌}
use Prim.Native.Nat.{ℕ, ◌+◌, ◌^◌, ◌≤◌, ◌<◌, min}
use Rattle.model.specs.Norm.{kind_norm, norm}
use Rattle.model.specs.Base.{rounds_for, rounds_at}
use Rattle.model.specs.Sheet.{card_of, field_of}
use Rattle.sheet.proofs.Laws.{kinds_most}
use Rattle.stages.proofs.Fields.{read_fits, read_norm}
use Rattle.filer.proofs.Rounds.{rounds_by, smaller, other_smaller}
use Rattle.filer.proofs.Calls.{gain_fits}
use Rattle.filer.proofs.compare.rounds_at.Goals as goal
use Rattle.filer.proofs.compare.rounds_at.Goals.{After-gain-most}

-- The two numbers are the norms of the fields, and the rounds are by the smaller.
first_norm : (c : After-gain-most) → c.field_norm-one.result ≡ norm (card_of c.args.sheet.now) (field_of c.args.sheet.now c.args.first)
first_norm c = c.field_norm-one.ensures ∙ read_norm c.requires.accepts.reads c.args.first _ c.field.ensures c.requires.accepts

second_norm : (c : After-gain-most) → c.field_norm-other.result ≡ norm (card_of c.args.sheet.now) (field_of c.args.sheet.now c.args.second)
second_norm c = c.field_norm-other.ensures ∙ read_norm c.requires.accepts.reads c.args.second _ c.field-2.ensures c.requires.accepts

abbrev Reported : After-gain-most → ℕ → Type 0
Reported c x =
    let s = c.args.sheet.now in
    rounds_for x c.gain-most.result c.args.stage ≡ rounds_at (card_of s) (kind_norm (card_of s)) c.args.stage (field_of s c.args.first) (field_of s c.args.second)

by_smaller : (c : After-gain-most) → Reported c (min c.field_norm-one.result c.field_norm-other.result)
by_smaller c = rounds_by (card_of c.args.sheet.now) c.args.stage _ _ _ _ _ (first_norm c) (second_norm c) c.gain-most.ensures

by_first : (c : After-gain-most) → c.field_norm-one.result < c.field_norm-other.result → Reported c c.field_norm-one.result
by_first c h = rw (smaller c.field_norm-one.result c.field_norm-other.result h) at (by_smaller c)

by_second : (c : After-gain-most) → c.field_norm-other.result ≤ c.field_norm-one.result → Reported c c.field_norm-other.result
by_second c h = rw (other_smaller c.field_norm-one.result c.field_norm-other.result h) at (by_smaller c)

gain_small : (c : After-gain-most) → c.gain-most.result + 1 < 2 ^ 64
gain_small c =
    rw c.gain-most.ensures (gain_fits c.args.sheet.now c.requires.accepts.accepted (λ k. omega (arith, c.type_inv.sheet k)))

pub field_norm-one-requires : goal.field_norm-one-requires
field_norm-one-requires c = record { kinds_le_most_kinds = kinds_most c.requires.accepts.reads; field_bound = read_fits c.requires.accepts.reads c.args.first _ c.field.ensures c.requires.accepts (λ k. omega (arith, c.type_inv.sheet k)) }

pub field_norm-other-requires : goal.field_norm-other-requires
field_norm-other-requires c = record { kinds_le_most_kinds = kinds_most c.requires.accepts.reads; field_bound = read_fits c.requires.accepts.reads c.args.second _ c.field-2.ensures c.requires.accepts (λ k. omega (arith, c.type_inv.sheet k)) }

pub rounds_for-requires : goal.rounds_for-requires
rounds_for-requires c =
    (gain_small (goal.at.rounds_for-requires c).After-gain-most, rw (by_first (goal.at.rounds_for-requires c).After-gain-most c.if-one-other.true) c.requires.second_bound)

pub returns-then-one-other : goal.returns-then-one-other
returns-then-one-other c = c.rounds_for.ensures ∙ by_first (goal.at.returns-then-one-other c).After-gain-most c.if-one-other.true

pub rounds_for-requires-2 : goal.rounds_for-requires-2
rounds_for-requires-2 c =
    (gain_small (goal.at.rounds_for-requires-2 c).After-gain-most, rw (by_second (goal.at.rounds_for-requires-2 c).After-gain-most c.if-one-other.false) c.requires.second_bound)

pub returns : goal.returns
returns c = c.rounds_for-2.ensures ∙ by_second (goal.at.returns c).After-gain-most c.if-one-other.false
