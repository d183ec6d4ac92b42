-- The counts of a list are summed one by one.
use Rattle.std.proofs.Common.{rules, arith, List, ◌≡◌, refl, sym, ◌∙◌, ℕ, zero, suc, ◌≤◌, length, take, add-one}
use Rattle.std.specs.List.{sum}
use Rattle.std.proofs.lemmas.List.Sums.{sum_by_more}
use lib.Seq.{take_all}
use Rattle.model.specs.Field.{weigh, at, tokens}
use Rattle.row_tests.proofs.total.tokens_of.Goals as goal

tokens_taken : (xs : List ℕ) (n : ℕ) → n ≤ length xs → tokens n (at xs) ≡ sum (take n xs)
unfolding weigh
tokens_taken xs zero h = refl
tokens_taken xs (suc n) h = omega (arith, tokens_taken xs n (omega arith), rw add-one at (sum_by_more (λ x. x) xs n 0 (omega arith)))

pub returns : goal.returns
returns c =
    let row = c.args.row.now in
    let summed : c.sum.result ≡ sum row = search rules in
    summed ∙ sym (rw (take_all (length row) row (omega arith)) at (tokens_taken row (length row) (omega arith)))
