-- What is claimed of shelf numbers, of every card and every size. In quotes stand sentences of document 02 (its request 2).
use mathlib.Core.List.{List, [], ◌∷◌, Memᴰ}
use Rattle.std.specs.Prelude.{◌↔◌, ◌⊎◌, ◌≡◌, ℕ, ◌≤◌, ◌<◌, ◌^◌, length}
use Rattle.model.specs.Field.{Field, at, tokens}
use Rattle.model.specs.Card.{Card, Reached, reached_count}
use Rattle.model.specs.Limits.{most_kinds, most_tokens}
use Rattle.model.specs.Shelf.{entry, last_first, shelf, shelf_number, shelf_field}
use Rattle.theory.specs.Terms.{OfKinds}

-- "listed with the smaller count of the last kind first, then of the one before it, and so on": a comes before b, by kinds of which the last stands first.
unfoldable pub Precedes : List ℕ → Field → Field → Type 0
Precedes [] a b = ⊥
Precedes (k ∷ ks) a b = (a k < b k) ⊎ ((a k ≡ b k) × Precedes ks a b)

pub record Shelves (c : Card) (t : ℕ) : Type 0 where
  -- The kinds that the listing runs over, the last first.
  pub kinds : (k : ℕ) → Memᴰ k (last_first c) ↔ Reached c k
  pub last : (x y : ℕ) → x < y → y < length (last_first c) → at (last_first c) y < at (last_first c) x
  -- "how many fields there are", and which.
  pub many : length (shelf c t) ≡ entry (reached_count c) t
  pub fields : (a : Field) → Memᴰ a (shelf c t) ↔ (OfKinds c a × (tokens c.kinds a ≡ t))
  -- "with the smaller count of the last kind first, then of the one before it, and so on, from number 0"
  pub order : (x y : ℕ) → x < y → y < entry (reached_count c) t → Precedes (last_first c) (shelf_field c t x) (shelf_field c t y)
  -- "At each size, field to number and number to field are each other's inverse, and every number under the entry is used."
  pub number_field : (x : ℕ) → x < entry (reached_count c) t → shelf_number c (shelf_field c t x) ≡ x
  pub field_number : (a : Field) → OfKinds c a → tokens c.kinds a ≡ t → shelf_field c t (shelf_number c a) ≡ a
  pub number_under : (a : Field) → OfKinds c a → tokens c.kinds a ≡ t → shelf_number c a < entry (reached_count c) t
  pub used : (x : ℕ) → x < entry (reached_count c) t → OfKinds c (shelf_field c t x) × (tokens c.kinds (shelf_field c t x) ≡ t)
  -- "with k their number and every other count 0": a field found by number has no kind that is out.
  pub others : (x : ℕ) → x < entry (reached_count c) t → (k : ℕ) → ¬ Reached c k → shelf_field c t x k ≡ 0
  -- No count is over the tokens, so that "counts of 16 bits" hold a field of at most 16 tokens.
  pub small : (x : ℕ) → x < entry (reached_count c) t → (k : ℕ) → shelf_field c t x k ≤ t

-- The entries for "k from 0 to 32 kinds and t from 0 to 16 tokens": 64 bits hold each, and 48 do.
abbrev pub EntriesFit : Type 0
EntriesFit = (k t : ℕ) → k ≤ most_kinds → t ≤ most_tokens → entry k t ≤ 2 ^ 48
