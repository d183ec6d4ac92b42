-- `walk_fields`: with four numbers, the last of 32 bits, or a desk after them, the walk of these fields by that desk.
use mathlib.Core.List.{List}
use mathlib.Core.Path.{ap, ◌∙◌}
use Prim.Native.Nat.{ℕ}
use native.Mathlib.Omega.{arith}
use lib.ListN.{get_or}
use Rattle.model.specs.Answer.{Walked, walk_of}
use Rattle.text.proofs.Append.{reads_as}
use Rattle.walk_text.specs.Line.{walk_line}
use Rattle.replies.specs.Told.{end_of}
use Rattle.walk_verb.specs.Texts.{given_to}
use Rattle.walk_verb.specs.Calls.{walk_told}
use Rattle.walk_verb.proofs.Answered.{walk_tells, allowance_taken, allowance_past}
use Rattle.replies.proofs.Numbers.{five_taken, five_fewer, five_more}
use Rattle.replies.proofs.Replies.{tells_nothing, told_as}
use Rattle.walk_verb.proofs.walk.walk_fields.Goals as goal

pub returns-then-numbers-lt4 : goal.returns-then-numbers-lt4
unfolding walk_told
returns-then-numbers-lt4 c =
    told_as _ (tells_nothing c.args.out.now c.no_call.result c.no_call.ensures) (five_fewer _ c.args.numbers.now (omega (arith, c.if-numbers-lt4.true)))

pub returns-then-numbers-gt5 : goal.returns-then-numbers-gt5
unfolding walk_told
returns-then-numbers-gt5 c =
    told_as _ (tells_nothing c.args.out.now c.no_call-then-numbers-gt5.result c.no_call-then-numbers-gt5.ensures) (five_more _ c.args.numbers.now (omega (arith, c.if-numbers-gt5.true)))

pub returns-then-allowance-gt-NARROW : goal.returns-then-allowance-gt-NARROW
unfolding walk_told
returns-then-allowance-gt-NARROW c =
    told_as _ (tells_nothing c.args.out.now c.no_call-then-allowance-gt-NARROW.result c.no_call-then-allowance-gt-NARROW.ensures)
    (allowance_past c.args.sheet.now _ _ _ _ _ c.if-allowance-gt-NARROW.true ∙ five_taken _ c.args.numbers.now (omega (arith, c.if-numbers-lt4.false)) (omega (arith, c.if-numbers-gt5.false)))

pub returns : goal.returns
unfolding walk_told
returns c =
    let s = c.args.sheet.now in
    let i = get_or c.args.numbers.now 0 0 in
    let j = get_or c.args.numbers.now 1 0 in
    let limit = get_or c.args.numbers.now 2 0 in
    let allowance = get_or c.args.numbers.now 3 0 in
    let desk = get_or c.args.numbers.now 4 0 in
    let walked =
    c.walk-walked.ensures
    ∙ ap (λ (l : List ℕ). walk_of s i j limit c.desk_of-desk.result (record { left = l })) c.session_of-session.ensures
    ∙ ap (λ (d : ℕ). walk_of s i j limit d (record { left = given_to d allowance })) c.desk_of-desk.ensures in
    told_as _
    (walk_tells s i j limit allowance desk (c.outcome_of-outcome.ensures ∙ ap (λ (w : Walked). end_of w.answer) walked) (reads_as 54 _ c.put_walk-length.ensures (omega arith) (ap walk_line walked)))
    (allowance_taken s i j limit allowance desk c.if-allowance-gt-NARROW.false ∙ five_taken _ c.args.numbers.now (omega (arith, c.if-numbers-lt4.false)) (omega (arith, c.if-numbers-gt5.false)))
