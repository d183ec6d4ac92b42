-- The texts that the writers append one after another are the lines of specs/Line.
use mathlib.Core.List.{List, ◌++◌, append_assoc}
use mathlib.Core.Path.{◌≡◌, refl}
use Prim.Native.Nat.{ℕ}
use borrow.Author.Tests.{eq-eqb, ne_eqb}
use Rattle.model.specs.Field.{at}
use Rattle.model.specs.Page.{bytes, number, newline, counts_of, itself}
use Rattle.text.specs.Count.{labelled_counts}
use Rattle.listing.specs.Line.{head_text, row_text, words_text, kind_text, field_text}

-- What is appended for the head, for a kind and a field.
pub head_is : (n s : ℕ) → bytes "kinds " ++ number n ++ (bytes " stages " ++ number s) ++ bytes "\n" ≡ head_text n s
unfolding head_text newline
head_is n s = simp append_assoc

-- A row that has its own kind once shows the word prime, any other its counts.
module _ (k : ℕ) (row : List ℕ) where
  pub prime_is : at row k ≡ 1 → bytes "prime" ≡ row_text k row
  unfolding row_text itself
  prime_is e = rw (eq-eqb (at row k) 1 e, row_text) refl

  pub counts_is : (at row k ≡ 1 → ⊥) → counts_of row ≡ row_text k row
  unfolding row_text itself
  counts_is e = rw (ne_eqb (at row k) 1 e, row_text) refl

-- A kind without a norm is out; any other shows its norm, its mark and its row.
module _ (k w q : ℕ) (row : List ℕ) where
  pub out_is : w ≡ 0 → bytes " out" ≡ words_text k w q row
  unfolding words_text
  out_is e = rw (eq-eqb w 0 e, words_text) refl

  pub words_is : (w ≡ 0 → ⊥) → (bytes " norm " ++ number w ++ (bytes " since " ++ number q)) ++ (bytes " " ++ row_text k row) ≡ words_text k w q row
  unfolding words_text
  words_is e = rw (ne_eqb w 0 e, words_text) (simp append_assoc)

  pub kind_is : (bytes "kind " ++ number k) ++ (words_text k w q row ++ bytes "\n") ≡ kind_text k w q row
  unfolding kind_text newline
  kind_is = simp append_assoc

pub field_is : (i : ℕ) (form : List ℕ) → labelled_counts (bytes "field ") i form ≡ field_text i form
unfolding field_text labelled_counts
field_is i form = refl
