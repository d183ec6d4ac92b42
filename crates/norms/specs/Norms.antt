-- The arrays that hold norms, an accepted sheet with its norms, and what its lines leave by them.
use Rattle.std.specs.Prelude.{Bool, true, false, List, ◌≡◌, ℕ, suc, ◌-◌, min, ltb}
use Rattle.model.specs.Finite.{list_from}
use Rattle.model.specs.Field.{Field}
use Rattle.model.specs.Card.{reached}
use Rattle.model.specs.Norm.{kind_norm, norm}
use Rattle.model.specs.Sheet.{line_of, card_of}
use Rattle.model.specs.Limits.{most_kinds, norm_limit}
use Rattle.model.specs.Refusal.{Accepted}
use Rattle.sheet.specs.Reader.{Reads}
use Rattle.sheet.specs.declared.reader.Card.{Card}

-- A field as an array by value: its counts of the most kinds there are.
abbrev pub array_of : Field → List ℕ
array_of f = list_from f 0 most_kinds

-- The norms of the sheet's reached kinds, cut one past "the greatest norm taken"; 0 is one that has none, or a kind that is out.
unfoldable pub cut_norms : List ℕ → List ℕ
cut_norms s = array_of (λ k. min (kind_norm (card_of s) k) (suc norm_limit))

-- The norms of the sheet's reached kinds, as they are; 0 for a kind that is out.
unfoldable pub norms_of : List ℕ → List ℕ
norms_of s = array_of (kind_norm (card_of s))

-- Of a sheet to which none of 1 to 10 applies: the card was read from it, and the array holds the norms of its reached kinds.
pub record Accepts (s : List ℕ) (c : Card) (norms : List ℕ) : Type 0 where
  pub reads : Reads s c
  pub accepted : Accepted s
  pub norms_are : norms ≡ norms_of s

-- "reads that lower the norm": those by line j do.
unfoldable pub lowers_norm : List ℕ → ℕ → Bool
lowers_norm s j = ltb (norm (card_of s) (line_of s j).left) (kind_norm (card_of s) (line_of s j).kind)

-- The norm that line j leaves minus its kind's norm, or 0; 0 too for a line of a kind that is out.
unfoldable pub line_gain : List ℕ → ℕ → ℕ
line_gain s j =
    elim (reached (card_of s) (line_of s j).kind) [
      | true ↦ norm (card_of s) (line_of s j).left - kind_norm (card_of s) (line_of s j).kind
      | false ↦ 0
    ]
