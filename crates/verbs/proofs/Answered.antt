-- The texts of the calls, from what the calls give.
use mathlib.Core.List.{List, ◌++◌}
use mathlib.Core.Path.{◌≡◌, ap, ◌∙◌}
use Prim.Native.Nat.{ℕ}
use Rattle.model.specs.Sheet.{kind_count}
use Rattle.model.specs.Answer.{refused, given, settle_of, row_check_of}
use Rattle.model.specs.Page.{number}
use Rattle.replies.specs.Texts.{worded}
use Rattle.verbs.specs.Texts.{table_room, stages_line, row_lines, settle_text, row_in, row_after, row_text}

-- Settle and Row, by what Settle gives for a table with room.
module _ (s : List ℕ) where
  pub settle_answered : (table : List ℕ) → table ≡ (settle_of s table_room).lent → (stage : ℕ) → given stage ≡ (settle_of s table_room).answer
      → given (stages_line stage ++ row_lines (kind_count s) table) ≡ settle_text s
  unfolding settle_text worded
  settle_answered table lent stage e =
      ap (λ (t : List ℕ). given (stages_line stage ++ row_lines (kind_count s) t)) lent
      ∙ ap (worded (λ stage. stages_line stage ++ row_lines (kind_count s) (settle_of s table_room).lent)) e

  pub settle_refused : (number place : ℕ) → refused number place ≡ (settle_of s table_room).answer → refused number place ≡ settle_text s
  unfolding settle_text worded
  settle_refused number place e = ap (worded (λ stage. stages_line stage ++ row_lines (kind_count s) (settle_of s table_room).lent)) e

  pub row_answered : (table : List ℕ) → table ≡ (settle_of s table_room).lent → (k stage : ℕ) → given stage ≡ (settle_of s table_room).answer
      → row_in (kind_count s) k table (row_check_of (kind_count s) k table) ≡ row_text s k
  unfolding row_text row_after
  row_answered table lent k stage e = ap (λ (t : List ℕ). row_in (kind_count s) k t (row_check_of (kind_count s) k t)) lent ∙ ap (row_after s k) e

  pub row_refused : (k number place : ℕ) → refused number place ≡ (settle_of s table_room).answer → refused number place ≡ row_text s k
  unfolding row_text row_after
  row_refused k number place e = ap (row_after s k) e
