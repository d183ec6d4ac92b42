-- The fields, and the lines of one kind: what the marks of each one's counts come to.
use mathlib.Core.Bool.{Bool}
use mathlib.Core.List.{List, map}
use mathlib.Core.Path.{◌≡◌, subst, ap, ◌∙◌}
use Prim.Native.Nat.{ℕ, ◌≤◌, ◌<◌}
use native.Mathlib.Omega.{arith}
use lib.ListN.{length}
use Rattle.std.proofs.lemmas.List.{map-id}
use Rattle.model.specs.Field.{Field, at}
use Rattle.model.specs.Limits.{most_kinds}
use Rattle.model.specs.Sheet.{line_of, field_of}
use Rattle.sheet.specs.declared.reader.Card.{Card}
use Rattle.sheet.specs.Reader.{Reads, line_counts, field_counts}
use Rattle.sheet.proofs.Laws.{kinds_are, kinds_most, field_counts_at, line_counts_at, line_counts_length}
use Rattle.reach.specs.Marks.{Adds}
use Rattle.reach.specs.Kinds.{Holds, Leaves}
use Rattle.reach.proofs.Adding.{adds_where}

-- The tokens of a list of counts: each count is its own number of them.
abbrev pub tokens_of : List ℕ → List ℕ
tokens_of counts = map (λ (count : ℕ). count) counts

-- What is marked by the tokens of a list of counts is marked by the field of them.
tokens_field : {old new : List Bool} (counts : List ℕ) (f : Field) → at counts ≡ f → Adds (λ k. 0 < at (tokens_of counts) k) old new → Adds (λ k. 0 < f k) old new
tokens_field {old} {new} counts f e a = subst (λ (f : Field). Adds (λ k. 0 < f k) old new) (ap at (map-id counts) ∙ e) a

module _ {s : List ℕ} {c : Card} (R : Reads s c) where
  -- The kinds that the counts of field i have are those that it holds.
  pub field_adds : {old new : List Bool} (i : ℕ) (field : List ℕ) → field ≡ field_counts s i → Adds (λ k. 0 < at (tokens_of field) k) old new → Adds (Holds s i) old new
  field_adds i field e a = tokens_field field (field_of s i) (ap at e ∙ field_counts_at R i) a

  -- A line's counts are no more than the marks.
  pub line_short : (j : ℕ) (counts : List ℕ) → counts ≡ line_counts s j → length counts ≤ most_kinds
  line_short j counts e = omega (arith, ap length e, line_counts_length s j, kinds_are R, kinds_most R)

  -- The kinds that the counts of line j have, where the line is of the kind, are those that it leaves.
  pub line_adds : {kind : ℕ} {old new : List Bool} (j : ℕ) (counts : List ℕ) → counts ≡ line_counts s j → (line_of s j).kind ≡ kind → Adds (λ k. 0 < at (tokens_of counts) k) old new
      → Adds (Leaves s kind j) old new
  line_adds j counts e d a = adds_where d (tokens_field counts (line_of s j).left (ap at e ∙ line_counts_at s j) a)
