-- The line of the answer; where it is given, how many kinds there are.
use mathlib.Core.List.{List}
use mathlib.Core.Path.{◌≡◌, refl, ap}
use Prim.Native.Nat.{ℕ, ◌≤◌}
use Rattle.model.specs.Limits.{most_kinds}
use Rattle.model.specs.Sheet.{kind_count}
use Rattle.model.specs.Refusal.{squads_checks}
use Rattle.model.specs.Answer.{given, squads_of}
use Rattle.model.specs.Page.{bytes}
use Rattle.text.specs.Count.{labelled_counts}
use Rattle.theory.proofs.Answers.{demand1}
use Rattle.replies.proofs.Texts.{answered_few}
use Rattle.squads_verb.specs.Texts.{squads_line}

-- What is appended.
pub squads_is : (count : ℕ) (remainder : List ℕ) → labelled_counts (bytes "squads ") count remainder ≡ squads_line count remainder
unfolding squads_line labelled_counts
squads_is count remainder = refl

pub squads_few : (s : List ℕ) (i j : ℕ) (buffer : List ℕ) (q : ℕ) → given q ≡ (squads_of s i j buffer).answer → kind_count s ≤ most_kinds
unfolding squads_checks
squads_few s i j buffer q e = answered_few s _ (λ k p d. ap (λ x. x.answer) ((demand1 s).squads_refused i j buffer k p d)) e
