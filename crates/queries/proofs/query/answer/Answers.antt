-- `answer`: the first word is the verb, those after it say the numbers.
use mathlib.Core.Path.{refl}
use native.Mathlib.Omega.{arith}
use Rattle.std.specs.Prelude.{Some, None}
use Rattle.words.proofs.Texts.{first_end}
use Rattle.queries.specs.Query.{said_told}
use Rattle.queries.proofs.Words.{query_none, query_verb}
use Rattle.replies.proofs.Replies.{tells_nothing, told_as}
use Rattle.queries.proofs.query.answer.Goals as goal

pub returns-in_default : goal.returns-in_default
returns-in_default c =
    told_as _ (tells_nothing c.args.out.now c.no_call.result c.no_call.ensures) (query_none c.args.sheet.now c.args.words.now (first_end c.args.words.now _ c.in_default.ensures))

pub split_at-requires : goal.split_at-requires
split_at-requires c = let ends = first_end c.args.words.now _ c.in-Some.ensures in omega (arith, ends.1)

pub returns-in_default-verb_of : goal.returns-in_default-verb_of
unfolding said_told
returns-in_default-verb_of c =
    told_as _ (tells_nothing c.args.out.now c.no_call-in_default-verb_of.result c.no_call-in_default-verb_of.ensures)
    (query_verb c.args.sheet.now c.args.words.now None _ (first_end c.args.words.now _ c.in-Some.ensures) c.split_at.ensures.front c.split_at.ensures.back c.in_default-verb_of.ensures refl)

pub returns-in_default-numbers_in : goal.returns-in_default-numbers_in
unfolding said_told
returns-in_default-numbers_in c =
    told_as _ (tells_nothing c.args.out.now c.no_call-in_default-numbers_in.result c.no_call-in_default-numbers_in.ensures)
    (query_verb c.args.sheet.now c.args.words.now (Some c.in-Some-verb_of.verb) None (first_end c.args.words.now _ c.in-Some.ensures) c.split_at.ensures.front c.split_at.ensures.back c.in-Some-verb_of.ensures c.in_default-numbers_in.ensures.values_after)

pub returns : goal.returns
unfolding said_told
returns c =
    told_as _ c.call.ensures
    (query_verb c.args.sheet.now c.args.words.now (Some c.in-Some-verb_of.verb) _ (first_end c.args.words.now _ c.in-Some.ensures) c.split_at.ensures.front c.split_at.ensures.back c.in-Some-verb_of.ensures c.in-Some-numbers_in.ensures.values_after)
