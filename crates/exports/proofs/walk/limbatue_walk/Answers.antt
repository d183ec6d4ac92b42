-- Arrays without room first; then each case of the answer by its values.
use mathlib.Core.List.{List}
use mathlib.Core.Logic.{inl, inr}
use mathlib.Core.Path.{sym, ◌∙◌, ap}
use Prim.Native.Nat.{ℕ}
use native.Mathlib.Omega.{arith}
use Rattle.model.specs.Walk.{apart, together, spent}
use Rattle.model.specs.Answer.{Walked, walk_of}
use Rattle.walker.specs.Answers.{answer_of, walked_of}
use Rattle.arrays.proofs.Codes.{walk_fits}
use Rattle.exports.proofs.WalkOutcomes.{walk_short, walk_gives, walk_refuses}
use Rattle.arrays.proofs.Replies.{code_is, lent_is, values_are}
use Rattle.exports.proofs.walk.limbatue_walk.Goals as goal

pub returns-then-session-lt-DESKS : goal.returns-then-session-lt-DESKS
returns-then-session-lt-DESKS c =
    let args = c.args in
    let e = walk_short args.sheet.now args.first args.second args.limit args.desk args.session.now args.answer.now (inl c.if-session-lt-DESKS.true) in
    record { value = c.short_walk.ensures ∙ code_is e; session_after = lent_is e; answer_after = values_are e }

pub returns-then-answer-lt3 : goal.returns-then-answer-lt3
returns-then-answer-lt3 c =
    let args = c.args in
    let e = walk_short args.sheet.now args.first args.second args.limit args.desk args.session.now args.answer.now (inr c.if-answer-lt3.true) in
    record { value = c.short_walk-then-answer-lt3.ensures ∙ code_is e; session_after = lent_is e; answer_after = values_are e }

pub refusal_code-requires : goal.refusal_code-requires
refusal_code-requires c =
    let args = c.args in
    let walk = c.walk-walked in
    walk_fits args.sheet.now (λ i. omega (arith, c.type_inv.sheet i)) _ _ args.first args.second args.limit args.desk _ (ap (λ (w : Walked). w.answer) (sym walk.ensures) ∙ ap answer_of c.in-Refused.is)

pub returns-in-Together : goal.returns-in-Together
returns-in-Together c =
    let args = c.args in
    let if1 = c.if-session-lt-DESKS in
    let if2 = c.if-answer-lt3 in
    let lent-session = c.lent_session in
    let walk = c.walk-walked in
    let reply-walk = c.reply_walk in
    let e = walk_gives args.sheet.now args.first args.second args.limit args.desk args.session.now args.answer.now (walked_of walk.result) (walk.ensures ∙ ap (λ (l : List ℕ). walk_of args.sheet.now args.first args.second args.limit args.desk (record { left = l })) lent-session.ensures) together (ap answer_of c.in-Together.is) if1.false if2.false in
    record { value = reply-walk.ensures.value ∙ code_is e; session_after = reply-walk.ensures.session_after ∙ lent_is e; answer_after = reply-walk.ensures.answer_after ∙ values_are e }

pub returns-in-Apart : goal.returns-in-Apart
returns-in-Apart c =
    let args = c.args in
    let if1 = c.if-session-lt-DESKS in
    let if2 = c.if-answer-lt3 in
    let lent-session = c.lent_session in
    let walk = c.walk-walked in
    let reply-walk2 = c.reply_walk-in-Apart in
    let e = walk_gives args.sheet.now args.first args.second args.limit args.desk args.session.now args.answer.now (walked_of walk.result) (walk.ensures ∙ ap (λ (l : List ℕ). walk_of args.sheet.now args.first args.second args.limit args.desk (record { left = l })) lent-session.ensures) (apart _) (ap answer_of c.in-Apart.is) if1.false if2.false in
    record { value = reply-walk2.ensures.value ∙ code_is e; session_after = reply-walk2.ensures.session_after ∙ lent_is e; answer_after = reply-walk2.ensures.answer_after ∙ values_are e }

pub returns-in-Spent : goal.returns-in-Spent
returns-in-Spent c =
    let args = c.args in
    let if1 = c.if-session-lt-DESKS in
    let if2 = c.if-answer-lt3 in
    let lent-session = c.lent_session in
    let walk = c.walk-walked in
    let reply-walk3 = c.reply_walk-in-Spent in
    let e = walk_gives args.sheet.now args.first args.second args.limit args.desk args.session.now args.answer.now (walked_of walk.result) (walk.ensures ∙ ap (λ (l : List ℕ). walk_of args.sheet.now args.first args.second args.limit args.desk (record { left = l })) lent-session.ensures) spent (ap answer_of c.in-Spent.is) if1.false if2.false in
    record { value = reply-walk3.ensures.value ∙ code_is e; session_after = reply-walk3.ensures.session_after ∙ lent_is e; answer_after = reply-walk3.ensures.answer_after ∙ values_are e }

pub returns-in-Refused : goal.returns-in-Refused
returns-in-Refused c =
    let args = c.args in
    let lent-session = c.lent_session in
    let walk = c.walk-walked in
    let e = walk_refuses args.sheet.now args.first args.second args.limit args.desk args.session.now args.answer.now (walked_of walk.result) (walk.ensures ∙ ap (λ (l : List ℕ). walk_of args.sheet.now args.first args.second args.limit args.desk (record { left = l })) lent-session.ensures) _ _ (ap answer_of c.in-Refused.is) in
    record { value = c.refusal_code.ensures ∙ code_is e; session_after = lent_is e; answer_after = values_are e }
