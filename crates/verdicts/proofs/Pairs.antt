-- The texts that the writers append one after another are the model's words and lines.
use mathlib.Core.List.{◌++◌, append_assoc}
use mathlib.Core.Path.{◌≡◌, refl}
use Prim.Native.Nat.{ℕ}
use Rattle.model.specs.Answer.{given, same, different}
use Rattle.model.specs.Page.{bytes, number, newline, refused_line, word_of}
use Rattle.verdicts.specs.Pair.{start_text}

-- What is appended for a refused sheet.
pub refused_is : (k p : ℕ) → bytes "refused " ++ number k ++ (bytes " " ++ number p) ++ bytes "\n" ≡ refused_line k p
unfolding refused_line newline
refused_is k p = simp append_assoc

-- What is appended for a verdict.
pub same_is : bytes "same\n" ≡ word_of (given same)
unfolding word_of newline bytes
same_is = refl

pub different_is : (s r : ℕ) → bytes "different " ++ number s ++ (bytes " " ++ number r) ++ bytes "\n" ≡ word_of (given (different s r))
unfolding word_of newline
different_is s r = simp append_assoc

-- What is appended before the verdict on a pair.
pub start_is : (j : ℕ) → bytes "pair 0 " ++ number j ++ bytes " " ≡ start_text j
unfolding start_text
start_is j = refl
