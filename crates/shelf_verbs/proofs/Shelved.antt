-- The line of a shelf number; of a field that is found, how many kinds there are.
use mathlib.Core.List.{List, ◌++◌, append_assoc}
use mathlib.Core.Path.{◌≡◌, ap}
use Prim.Native.Nat.{ℕ, ◌≤◌}
use Rattle.model.specs.Limits.{most_kinds}
use Rattle.model.specs.Sheet.{kind_count}
use Rattle.model.specs.Refusal.{shelf_field_checks}
use Rattle.model.specs.Answer.{given, shelf_field_of}
use Rattle.model.specs.Page.{bytes, number, newline}
use Rattle.theory.proofs.Answers.{demand1}
use Rattle.replies.proofs.Texts.{answered_few}
use Rattle.shelf_verbs.specs.Texts.{shelved_line}

-- What is appended for the number of a field.
pub shelved_is : (size x : ℕ) → bytes "size " ++ number size ++ (bytes " number " ++ number x) ++ bytes "\n" ≡ shelved_line size x
unfolding shelved_line newline
shelved_is size x = simp append_assoc

pub shelved_few : (s : List ℕ) (t x : ℕ) (buffer : List ℕ) → given tt ≡ (shelf_field_of s t x buffer).answer → kind_count s ≤ most_kinds
unfolding shelf_field_checks
shelved_few s t x buffer e = answered_few s _ (λ k p d. ap (λ x. x.answer) ((demand1 s).shelf_refused t x buffer k p d)) e
