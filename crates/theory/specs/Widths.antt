-- How large the numbers of an accepted sheet grow, from its bytes and the written limits alone.
use Rattle.std.specs.Prelude.{List, ◌≡◌, ℕ, suc, ◌+◌, ◌-◌, ◌*◌, ◌^◌, ◌≤◌, ◌<◌}
use Rattle.model.specs.Field.{Field, at}
use Rattle.model.specs.Card.{Line, On, fire}
use Rattle.model.specs.Norm.{kind_norm, norm}
use Rattle.model.specs.Sense.{Sense, total}
use Rattle.model.specs.Base.{settled_stage_in, stage_row_in, stage_form_in, settled_row_in, gain}
use Rattle.model.specs.Sheet.{byte, kind_count, field_count, card_of, field_of}
use Rattle.model.specs.Limits.{most_kinds, norm_limit}
use Rattle.model.specs.Answer.{given, different, compare_in, prime_form_in}

-- The sheet's numbers are bytes.
abbrev pub Bytes : List ℕ → Type 0
Bytes s = (i : ℕ) → byte s i < 256

-- The norm of "n count bytes", and of "n counts of two bytes".
abbrev pub most_left_norm : ℕ
most_left_norm = most_kinds * (255 * norm_limit)

abbrev pub most_field_norm : ℕ
most_field_norm = most_kinds * (65535 * norm_limit)

-- "N + 1 + (s - 1)(g + 1)"
abbrev pub most_reported : ℕ
most_reported = most_field_norm + 1 + (most_kinds - 1) * (most_left_norm + 1)

-- Of an accepted sheet of bytes.
pub record Widths (s : List ℕ) : Type 0 where
  pub left_count : (l : Line) → On (card_of s) l → (k : ℕ) → l.left k ≤ 255
  pub field_count_is : (i k : ℕ) → field_of s i k ≤ 65535
  pub field_total : (i : ℕ) → total (card_of s) (field_of s i) ≤ most_kinds * 65535
  -- A line adds at most 255 to a count, so that after r rounds of the walk no count passes 65,535 + 255 × r.
  pub fire_count : (l : Line) → On (card_of s) l → (a : Field) (m k : ℕ) → a k ≤ m → fire l a k ≤ m + 255
  pub kind_norm_is : (k : ℕ) → k < kind_count s → kind_norm (card_of s) k ≤ norm_limit
  pub left_norm : (l : Line) → On (card_of s) l → norm (card_of s) l.left ≤ most_left_norm
  pub field_norm : (i : ℕ) → norm (card_of s) (field_of s i) ≤ most_field_norm
  pub gain_most : gain (card_of s) ≤ most_left_norm
  -- In each sense: the rows, and the decompositions by them, at every stage from 1 up; the settled stage is one of them.
  pub row_count : (m : Sense) (q k j : ℕ) → k < kind_count s → stage_row_in m (card_of s) (suc q) k j ≤ norm_limit
  pub form_count : (m : Sense) (q : ℕ) (a : Field) (j : ℕ) → stage_form_in m (card_of s) (suc q) a j ≤ norm (card_of s) a
  pub settled_count : (m : Sense) (k j : ℕ) → k < kind_count s → settled_row_in m (card_of s) k j ≤ norm_limit
  pub written_count : (m : Sense) (i k : ℕ) → at (prime_form_in m s i) k ≤ norm (card_of s) (field_of s i)
  pub stage_most : (m : Sense) → settled_stage_in m (card_of s) ≤ most_kinds
  pub verdict_most : (m : Sense) (i j t r : ℕ) → i < field_count s → j < field_count s → compare_in m s i j ≡ given (different t r) → (t ≤ most_kinds) × (r ≤ most_reported)
  -- A "table of 32-bit counts" holds the rows, and "counts of 64 bits" everything else.
  pub narrow : (norm_limit < 2 ^ 32) × (most_reported < 2 ^ 64)
