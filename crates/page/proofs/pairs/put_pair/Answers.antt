-- `put_pair`: the start of the line, and then the word of each case of the verdict.
use mathlib.Core.List.{List, ◌++◌}
use mathlib.Core.Path.{◌≡◌, sym, ap}
use Prim.Native.Nat.{ℕ, ◌≤◌}
use native.Mathlib.Omega.{arith}
use Rattle.model.specs.Answer.{Answer, Verdict as Called}
use Rattle.model.specs.Page.{word_of}
use Rattle.filer.specs.Answers.{verdict_of}
use Rattle.text.specs.Appended.{Appended}
use Rattle.text.proofs.Append.{then, reads_as}
use Rattle.verdicts.specs.Pair.{start_text, pair_text}
use Rattle.page.specs.Lengths.{most_start, most_word, most_pair}
use Rattle.page.proofs.pairs.put_pair.Goals as goal

pair_line : {m i j k : ℕ} {b c d text : List ℕ} (later : ℕ) (answer : Answer Called) → Appended most_start b i (start_text later) c j → Appended m c j text d k → m ≤ most_word → text ≡ word_of answer
    → Appended most_pair b i (pair_text later answer) d k
unfolding pair_text
pair_line later answer start word short e = reads_as most_pair (pair_text later answer) (then start word) (omega arith) (ap (λ (t : List ℕ). start_text later ++ t) e)

pub returns-in-Same : goal.returns-in-Same
returns-in-Same c =
    let put-start = c.put_start-word in
    pair_line c.args.later (verdict_of c.args.verdict) put-start.ensures c.put_same.ensures (omega arith)
    (ap (λ v. word_of (verdict_of v)) (sym c.in-Same.is))

pub returns-in-Different : goal.returns-in-Different
returns-in-Different c =
    let put-start = c.put_start-word in
    pair_line c.args.later (verdict_of c.args.verdict) put-start.ensures c.put_different.ensures (omega arith)
    (ap (λ v. word_of (verdict_of v)) (sym c.in-Different.is))

pub returns-in-Refused : goal.returns-in-Refused
unfolding word_of
returns-in-Refused c =
    let put-start = c.put_start-word in
    pair_line c.args.later (verdict_of c.args.verdict) put-start.ensures c.put_refused.ensures (omega arith)
    (ap (λ v. word_of (verdict_of v)) (sym c.in-Refused.is))
