use borrow.Author.Rules.{rules}
use mathlib.Core.Path.{◌≡◌, refl, sym, ◌∙◌}
use mathlib.Core.List.{List}
use Prim.Native.Nat.{ℕ, suc}
use lib.ListN.{length}
use native.Mathlib.Numerals.{add-one}
use native.Mathlib.Omega.{arith}
use Rattle.model.specs.Sense.{Sense}
use Rattle.sheet.proofs.Laws.{kinds_are, kinds_most}
use Rattle.tables.specs.Senses.{sense_of}
use Rattle.tables.proofs.Tables.{told_not}
use Rattle.rows.proofs.StageRows.{lines_whole}
use Rattle.rows.specs.Stage.{BaseAt, Classes, BoundsAt}
use Rattle.stages.specs.Kept.{KeptTo}
use Rattle.stages.proofs.Keeping.{kept_start, kept_stage}
use Rattle.stages.proofs.Unsettled.{unsettled_start, unsettled_more, unsettled_next, few_kinds, held_start, held_given, held_next, held_atoms, held_settled, held_end}
use Rattle.stages.proofs.settle.settle_lines.Goals as goal
use Rattle.stages.proofs.settle.settle_lines.Goals.{After-line_classes-classes, After-rows_expand, After-stage_rows-next, Start}

pub loop-sense-init : goal.loop-sense-init
loop-sense-init c =
    record {
      held = held_start (sense_of c.args.sense) c.args.sheet.now;
      unsettled = unsettled_start (sense_of c.args.sense) c.args.sheet.now;
      table = c.requires.form_table;
      kept = kept_start (sense_of c.args.sense) c.args.sheet.now c.requires.accepts.accepted _;
      rows_long = refl;
      classes_long = refl;
      since_long = refl;
      before_long = search rules;
    }

pub stage_rows-next-requires-clause-form_table : goal.stage_rows-next-requires-clause-form_table
stage_rows-next-requires-clause-form_table c =
    let reached = c.loop-sense.invariant in
    (reached.table, reached.rows_long, omega (arith, (lines_whole c.requires.lines_are c.requires.accepts.reads).few, reached.classes_long))

pub line_classes-classes-requires-clause-rows_len : goal.line_classes-classes-requires-clause-rows_len
line_classes-classes-requires-clause-rows_len c =
    (search rules, omega (arith, (lines_whole c.requires.lines_are c.requires.accepts.reads).few, c.loop-sense.invariant.classes_long))

pub overflow_add-settled : goal.overflow_add-settled
overflow_add-settled c =
    let loop = c.loop-sense in
    omega (arith, unsettled_next (sense_of c.args.sense) c.args.sheet.now c.requires.accepts.accepted loop.invariant.unsettled, few_kinds c.requires.accepts.reads)

pub keep_stage-requires-clause-kinds_le_most_kinds : goal.keep_stage-requires-clause-kinds_le_most_kinds
keep_stage-requires-clause-kinds_le_most_kinds c = kinds_most c.requires.accepts.reads

norms_long : (c : Start) → length c.args.norms ≡ 32
norms_long c = search rules

all_rows : (c : After-stage_rows-next) → length c.stage_rows-next.result ≡ 1024
all_rows c = search rules

all_classes : (c : After-line_classes-classes) → length c.line_classes-classes.result ≡ 256
all_classes c = search rules

pub rows_expand-requires : goal.rows_expand-requires
rows_expand-requires c =
    let loop = c.loop-sense in
    let rows = c.stage_rows-next in
    let whole = lines_whole c.requires.lines_are c.requires.accepts.reads in
    let given = held_given c.requires.accepts.reads c.requires.accepts.accepted c.requires.lines_are loop.invariant.held in
    let found = rows.ensures loop.settled.stage given loop.invariant.held.rows_are in
    record { line_table = (whole, omega (arith, whole.few, all_classes (goal.at.rows_expand-requires c).After-line_classes-classes)); rows_len = (search rules, kinds_most c.requires.accepts.reads, omega (arith, norms_long (goal.at.rows_expand-requires c).Start, kinds_most c.requires.accepts.reads)); atoms = held_atoms (sense_of c.args.sense) c.requires.accepts c.requires.lines_are loop.settled.stage _ loop.classes found.base_is }

-- The state in which the next stage has been tested: the sense, the stage that the loop had reached, and the rows and the classes that were found since.
abbrev sense : After-rows_expand → Sense
sense c = sense_of c.args.sense

abbrev stage : After-rows_expand → ℕ
stage c = c.loop-sense.settled.stage

abbrev next : After-rows_expand → List ℕ
next c = c.stage_rows-next.result

abbrev classes : After-rows_expand → List ℕ
classes c = c.line_classes-classes.result

base : (c : After-rows_expand) → BaseAt (sense c) c.args.sheet.now (suc (stage c)) (next c)
base c =
    let reached = c.loop-sense.invariant in
    let given = held_given c.requires.accepts.reads c.requires.accepts.accepted c.requires.lines_are reached.held in
    (c.stage_rows-next.ensures (stage c) given reached.held.rows_are).base_is

told : (c : After-rows_expand) → Classes (sense c) c.args.sheet.now (stage c) (classes c) × BoundsAt (sense c) c.args.sheet.now (stage c) (classes c)
told c = c.line_classes-classes.ensures.classes (sense c) (stage c) (base c)

kept : (c : After-rows_expand) → KeptTo (sense c) c.args.sheet.now (suc (stage c)) c.keep_stage.new.since c.keep_stage.new.rows
kept c =
    let reached = c.loop-sense.invariant in
    let keep = c.keep_stage in
    kept_stage (sense c) c.args.sheet.now c.requires.accepts.accepted (stage c) reached.kept (base c) reached.held.rows_are.follows reached.held.no_rows (rw (add-one (stage c)) at keep.ensures) (sym (kinds_are c.requires.accepts.reads))

pub returns-then-rows_expand : goal.returns-then-rows_expand
returns-then-rows_expand c =
    let unsettled = c.loop-sense.invariant.unsettled in
    let passes = c.rows_expand.ensures.0 c.if-rows_expand.true in
    rw (add-one (stage (goal.at.returns-then-rows_expand c).After-rows_expand)) (held_end (sense (goal.at.returns-then-rows_expand c).After-rows_expand) c.requires.accepts c.requires.lines_are (stage (goal.at.returns-then-rows_expand c).After-rows_expand) (next (goal.at.returns-then-rows_expand c).After-rows_expand) (classes (goal.at.returns-then-rows_expand c).After-rows_expand) (base (goal.at.returns-then-rows_expand c).After-rows_expand) (told (goal.at.returns-then-rows_expand c).After-rows_expand).0 unsettled passes (kept (goal.at.returns-then-rows_expand c).After-rows_expand))

pub loop-sense-smaller : goal.loop-sense-smaller
loop-sense-smaller c =
    let unsettled = c.loop-sense.invariant.unsettled in
    omega (arith, unsettled_next (sense (goal.at.loop-sense-smaller c).After-rows_expand) c.args.sheet.now c.requires.accepts.accepted unsettled, kinds_are c.requires.accepts.reads)

pub loop-sense-preserved : goal.loop-sense-preserved
loop-sense-preserved c =
    let sheet = c.args.sheet.now in
    let ok = c.requires.accepts.accepted in
    let reached = c.loop-sense.invariant in
    let keep = c.keep_stage in
    let settled = held_settled (sense (goal.at.loop-sense-preserved c).After-rows_expand) c.requires.accepts c.requires.lines_are (stage (goal.at.loop-sense-preserved c).After-rows_expand) (next (goal.at.loop-sense-preserved c).After-rows_expand) (classes (goal.at.loop-sense-preserved c).After-rows_expand) (base (goal.at.loop-sense-preserved c).After-rows_expand) (told (goal.at.loop-sense-preserved c).After-rows_expand).0 in
    rw (add-one (stage (goal.at.loop-sense-preserved c).After-rows_expand)) (record {
      held = held_next ok (stage (goal.at.loop-sense-preserved c).After-rows_expand) (next (goal.at.loop-sense-preserved c).After-rows_expand) (classes (goal.at.loop-sense-preserved c).After-rows_expand) (base (goal.at.loop-sense-preserved c).After-rows_expand) (told (goal.at.loop-sense-preserved c).After-rows_expand).0 (told (goal.at.loop-sense-preserved c).After-rows_expand).1;
      unsettled = unsettled_more (sense (goal.at.loop-sense-preserved c).After-rows_expand) sheet ok reached.unsettled (λ y. told_not c.rows_expand.ensures c.if-rows_expand.false (settled.1 y));
      table = c.line_classes-classes.ensures.form_table;
      kept = kept (goal.at.loop-sense-preserved c).After-rows_expand;
      rows_long = all_rows (goal.at.loop-sense-preserved c).After-stage_rows-next;
      classes_long = all_classes (goal.at.loop-sense-preserved c).After-line_classes-classes;
      since_long = keep.auto.since ∙ reached.since_long;
      before_long = keep.auto.rows ∙ reached.before_long;
    })
