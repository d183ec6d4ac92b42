-- The line of the answer; where it is given, how many kinds there are.
use mathlib.Core.List.{List, ◌++◌}
use mathlib.Core.Path.{◌≡◌, ap}
use Prim.Native.Nat.{ℕ, ◌-◌, ◌≤◌}
use native.Mathlib.Omega.{arith}
use lib.ListN.{length, take, drop, length-drop}
use lib.Seq.{take_all}
use Rattle.model.specs.Field.{at}
use Rattle.model.specs.Limits.{most_kinds}
use Rattle.model.specs.Sheet.{kind_count}
use Rattle.model.specs.Refusal.{frequencies_checks}
use Rattle.model.specs.Answer.{given, frequencies_of}
use Rattle.model.specs.Page.{bytes, number}
use Rattle.text.specs.Count.{counts_line}
use Rattle.theory.proofs.Answers.{demand1}
use Rattle.replies.proofs.Texts.{answered_few}
use Rattle.frequencies_verb.specs.Texts.{common_line}

-- What is appended: the part of the counts that is told after the first is all of the others.
pub common_is : (counts : List ℕ) → bytes "same " ++ number (at counts 0) ++ bytes " stages " ++ counts_line (take (length counts - 1) (drop 1 counts)) ≡ common_line counts
unfolding common_line
common_is counts =
    ap (λ (stages : List ℕ). bytes "same " ++ number (at counts 0) ++ bytes " stages " ++ counts_line stages) (take_all (length counts - 1) (drop 1 counts) (omega (arith, length-drop 1 counts)))

pub common_few : (s : List ℕ) (i t : ℕ) (buffer : List ℕ) → given tt ≡ (frequencies_of s i t buffer).answer → kind_count s ≤ most_kinds
unfolding frequencies_checks
common_few s i t buffer e = answered_few s _ (λ k p d. ap (λ x. x.answer) ((demand1 s).frequencies_refused i t buffer k p d)) e
