-- The model's lines are those of specs/Line and specs/Pair of the crates below, of the sheet's values.
use mathlib.Core.Bool.{Bool, true, false, not}
use mathlib.Core.List.{List, ◌++◌}
use mathlib.Core.Path.{◌≡◌, refl, fun_ext}
use Prim.Native.Nat.{ℕ, ◌-◌}
use lib.Dec.{eqb}
use Rattle.model.specs.Finite.{concat, list_from}
use Rattle.model.specs.Card.{reached}
use Rattle.model.specs.Base.{settled_stage, since}
use Rattle.model.specs.Sheet.{kind_count, field_count, card_of}
use Rattle.model.specs.Answer.{row_of, compare_of, prime_form}
use Rattle.model.specs.Page.{words_of, kind_line, field_line, pair_line, lines}
use Rattle.listing.specs.Line.{head_text, row_text, words_text, kind_text, field_text}
use Rattle.verdicts.specs.Pair.{start_text, pair_text}

-- All of them, where a kind has norm 0 just when it is out.
module _ (s table : List ℕ) (w : ℕ → ℕ) (told : (k : ℕ) → eqb (w k) 0 ≡ not (reached (card_of s) k)) where
  line_is : (k : ℕ) → kind_line s table w k ≡ kind_text k (w k) (since (card_of s) k) (row_of (kind_count s) k table)
  unfolding kind_line words_of kind_text words_text row_text
  line_is k = go (reached (card_of s) k) refl
    where
      go : (b : Bool) → reached (card_of s) k ≡ b → kind_line s table w k ≡ kind_text k (w k) (since (card_of s) k) (row_of (kind_count s) k table)
      go true e = rw (told k, e, kind_line, words_text) refl
      go false e = rw (told k, e, kind_line, words_text) refl

  pub lines_are : lines s table w
      ≡ head_text (kind_count s) (settled_stage (card_of s)) ++ concat (list_from (λ k. kind_text k (w k) (since (card_of s) k) (row_of (kind_count s) k table)) 0 (kind_count s))
      ++ concat (list_from (λ i. field_text i (prime_form s i)) 0 (field_count s)) ++ concat (list_from (λ j. pair_text j (compare_of s 0 j)) 1 (field_count s - 1))
  unfolding lines head_text field_line pair_line field_text start_text pair_text
  lines_are = rw (fun_ext line_is) refl
