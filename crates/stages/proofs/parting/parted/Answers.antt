-- By what the sense asks for, then by the forms at the settled stage, then by those before it.
use borrow.Author.Rules.{rules}
use native.Mathlib.Omega.{arith}
use Rattle.theory.specs.Widths.{Bytes}
use Rattle.theory.proofs.Settling.{sheet_settles}
use Rattle.tables.specs.Senses.{sense_of}
use Rattle.tables.proofs.Tables.{told_not, counts_equal}
use Rattle.stages.proofs.Settled.{settled_most}
use Rattle.stages.proofs.Unsettled.{few_kinds}
use Rattle.stages.proofs.Parted.{parted_first}
use Rattle.stages.proofs.Outcomes.{settled_fit, parted_same, parts, parted_found}
use Rattle.stages.proofs.parting.parted.Goals as goal
use Rattle.stages.proofs.parting.parted.Goals.{After-shared_slice_known-1}

bytes : (c : After-shared_slice_known-1) → Bytes c.args.sheet.now
bytes c = λ k. omega (arith, c.shared_slice_known-1.given k)

pub field_form-one-requires-clause-rows_len : goal.field_form-one-requires-clause-rows_len
field_form-one-requires-clause-rows_len c =
    (search rules, settled_fit (sense_of c.args.sense) c.args.sheet.now c.requires.accepts.accepted c.args.settled.now.base.rows c.requires.settled.base_is (bytes (goal.at.field_form-one-requires-clause-rows_len c).After-shared_slice_known-1))

pub field_form-other-requires-clause-rows_len : goal.field_form-other-requires-clause-rows_len
field_form-other-requires-clause-rows_len c =
    (search rules, settled_fit (sense_of c.args.sense) c.args.sheet.now c.requires.accepts.accepted c.args.settled.now.base.rows c.requires.settled.base_is (bytes (goal.at.field_form-other-requires-clause-rows_len c).After-shared_slice_known-1))

pub overflow_add-result : goal.overflow_add-result
overflow_add-result c =
    omega (arith, c.requires.settled.stage_is, settled_most (sense_of c.args.sense) c.args.sheet.now c.requires.accepts.accepted, few_kinds c.requires.accepts.reads)

pub returns-then-eq : goal.returns-then-eq
returns-then-eq c =
    let field_form = c.field_form-one in
    let field-form2 = c.field_form-other in
    parted_same (sense_of c.args.sense) c.args.sheet.now c.requires.accepts.accepted c.args.settled.now c.requires.settled c.args.first c.args.second field_form.result field-form2.result field_form.ensures field-form2.ensures ((counts_equal _ _ _ (search rules) c.eq.ensures).0 c.if-eq.true)

pub parting_form-requires : goal.parting_form-requires
parting_form-requires c =
    let field_form = c.field_form-one in
    let field-form2 = c.field_form-other in
    let stage = c.requires.settled.stage_is in
    let from = (sheet_settles (sense_of c.args.sense) c.args.sheet.now c.requires.accepts.accepted).from in
    let few = few_kinds c.requires.accepts.reads in record { le_stage = (omega arith, omega (arith, settled_most (sense_of c.args.sense) c.args.sheet.now c.requires.accepts.accepted)); by_index = (sense_of c.args.sense, c.args.sheet.now, c.args.first, c.args.second, parts (sense_of c.args.sense) c.args.sheet.now c.requires.accepts.accepted c.args.settled.now c.requires.settled c.args.first c.args.second field_form.result field-form2.result field_form.ensures field-form2.ensures (bytes (goal.at.parting_form-requires c).After-shared_slice_known-1) few (told_not (counts_equal _ _ _ (search rules) c.eq.ensures) c.if-eq.false)) }

pub returns-then-start_relates : goal.returns-then-start_relates
returns-then-start_relates c =
    let start-relates = c.start_relates in
    let if1 = c.if-start_relates in
    let one = c.field_form-one in
    let other = c.field_form-other in
    let differ = parts (sense_of c.args.sense) c.args.sheet.now c.requires.accepts.accepted c.args.settled.now c.requires.settled c.args.first c.args.second one.result other.result one.ensures other.ensures (bytes (goal.at.returns-then-start_relates c).After-shared_slice_known-1) (few_kinds c.requires.accepts.reads) (told_not (counts_equal _ _ _ (search rules) c.eq.ensures) c.if-eq.false) in
    parted_found (sense_of c.args.sense) c.args.sheet.now c.requires.accepts.accepted c.args.settled.now c.requires.settled c.args.first c.args.second one.result other.result one.ensures other.ensures (start-relates.ensures.0 if1.true) _ (c.parting_form.ensures (sense_of c.args.sense) c.args.sheet.now c.args.first c.args.second differ)

pub returns : goal.returns
returns c =
    parted_first (sense_of c.args.sense) c.args.sheet.now c.requires.accepts.accepted c.args.first c.args.second _ (told_not c.start_relates.ensures c.if-start_relates.false)
