-- What is claimed of frequencies: how many of the fields of a size get each answer with a field of an accepted sheet. In quotes stand sentences of document 02 (its request 8).
use mathlib.Core.List.{List, Memᴰ}
use Rattle.std.specs.Prelude.{◌↔◌, ◌≡◌, ℕ, suc, ◌+◌, ◌≤◌, ◌<◌, length, get_or}
use Rattle.model.specs.Finite.{keep, sum}
use Rattle.model.specs.Sense.{plain}
use Rattle.model.specs.Field.{Field, none, at, tokens}
use Rattle.model.specs.Card.{Card, On, reached_count}
use Rattle.model.specs.Norm.{kind_norm}
use Rattle.model.specs.Stage.{stage_in}
use Rattle.model.specs.Base.{settled_stage}
use Rattle.model.specs.Shelf.{entry, shelf}
use Rattle.model.specs.Sheet.{kind_count, card_of, field_of}
use Rattle.model.specs.Answer.{judged_at, frequencies}
use Rattle.theory.specs.Expansion.{Bisimilar}
use Rattle.theory.specs.Terms.{OfKinds, StageIn}

-- "the fields of t tokens", which are of the reached kinds: b is one of them.
abbrev pub OfSize : Card → ℕ → Field → Type 0
OfSize c t b = OfKinds c b × (tokens c.kinds b ≡ t)

-- Of the field i of an accepted sheet and a size t. A verdict's place is 0 where it is same, and one more than its stage where it is different.
pub record Frequencies {ℓ} (s : List ℕ) (i t : ℕ) : Type (ℓ + 1) where
  -- "how many of the fields of t tokens are the same as it": the fields counted at place 0 are those of t tokens that are bisimilar to it, and no others.
  pub same : (b : Field) → Memᴰ b (judged_at (card_of s) (field_of s i) t 0) ↔ (OfSize (card_of s) t b × Bisimilar {ℓ} (On (card_of s)) (field_of s i) b)
  -- "how many part from it at each stage": those counted at place q + 1 are the fields of t tokens that stage q does not relate to it and every stage before does.
  pub parted : (q : ℕ) (b : Field) → Memᴰ b (judged_at (card_of s) (field_of s i) t (suc q))
      ↔ (OfSize (card_of s) t b × (¬ StageIn plain (card_of s) q (field_of s i) b) × ((r : ℕ) → r < q → StageIn plain (card_of s) r (field_of s i) b))
  -- Each of them is counted once.
  pub once : (p x y : ℕ) → x < y → y < length (judged_at (card_of s) (field_of s i) t p)
      → ¬ (get_or (judged_at (card_of s) (field_of s i) t p) x none ≡ get_or (judged_at (card_of s) (field_of s i) t p) y none)
  -- "in a lent buffer of n + 2 counts .., same first": the count at place p.
  pub counted : (p : ℕ) → p < kind_count s + 2 → at (frequencies s i t) p ≡ length (judged_at (card_of s) (field_of s i) t p)
  -- "Each shelved field counts in one place",
  pub one_place : (b : Field) → OfSize (card_of s) t b
      → (p : ℕ) × (p < kind_count s + 2) × ((r : ℕ) → Memᴰ b (judged_at (card_of s) (field_of s i) t r) ↔ (r ≡ p))
  -- "so the counts add to the table's entry for the reached kinds and t."
  pub adds : sum (frequencies s i t) ≡ entry (reached_count (card_of s)) t
  -- Past the settled stage nothing parts.
  pub past : (q : ℕ) → settled_stage (card_of s) < q → length (judged_at (card_of s) (field_of s i) t (suc q)) ≡ 0
  -- No count is over the entry, so that "counts of 32 bits" hold them where the entry is at most 65,536.
  pub small : (p : ℕ) → at (frequencies s i t) p ≤ entry (reached_count (card_of s)) t

-- How many of the fields of t tokens a stage relates to a field. (Inner contracts of `frequencies` cite it, and no claim does.)
unfoldable pub related_to : Card → Field → ℕ → ℕ → ℕ
related_to c a t q = length (keep (stage_in plain c (kind_norm c) q a) (shelf c t))
